use Rattle.convert_steps.proofs.Excepted.{new_written}
use Rattle.convert_steps.proofs.exceptions.new_exception.Goals as goal

pub returns : goal.returns
returns c =
    λ own terms.
    new_written own terms c.args.world.now c.args.binds.now _ c.go.new.self c.bind.new.self c.args.name.0 c.args.body c.args.scope c.args.next c.in_ok-later.later c.present.result c.new.result c.args.continuation c.new.ensures c.in_ok-push.ensures.ok c.in_ok-later.ensures c.in_ok-go.ensures.bounds c.in_ok-go.ensures.present c.in_ok-bind.ensures.kept c.in_ok-bind.ensures.bound c.present.ensures.number
