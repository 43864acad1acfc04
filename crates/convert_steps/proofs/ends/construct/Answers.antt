use Rattle.std.proofs.lemmas.Result.{IfOk-weaker}
use Rattle.convert_steps.proofs.Ended.{construct_written}
use Rattle.convert_steps.proofs.ends.construct.Goals as goal

pub returns : goal.returns
returns c =
    IfOk-weaker c.make.result _ _
    (λ t h own terms w e. construct_written own terms w c.args.binds.now c.make.new.binds c.args.scopes.now c.args.made c.args.value c.in_ok-atoms.atoms c.constructor_shape.result c.args.next c.present.result c.args.continuation t e c.present.ensures.here c.in_ok-atoms.ensures c.constructor_shape.ensures c.present.ensures.number (h own terms w))
    c.make.ensures
