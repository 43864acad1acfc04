use Rattle.convert_steps.proofs.Excepted.{same_written}
use Rattle.convert_steps.proofs.exceptions.same_exception.Goals as goal

pub returns : goal.returns
returns c =
    λ own terms bs.
    same_written own terms c.args.world.now bs c.go.new.self c.bind.new.self c.args.name.0 c.args.body c.args.scope c.args.next c.present-2.result c.args.constructor c.con_atom-atom.result c.args.continuation c.con_atom-atom.ensures c.present.ensures.here c.in_ok-go.ensures.bounds c.in_ok-go.ensures.present c.in_ok-bind.ensures.kept c.in_ok-bind.ensures.bound c.present-2.ensures.number
