use Rattle.std.proofs.Common.{refl}
use Rattle.convert_steps.proofs.Resumed.{gone_to}
use Rattle.convert_steps.proofs.frames.constructed.Goals as goal

pub returns : goal.returns
returns c =
    λ own terms.
    gone_to own terms c.args.world.now _ c.args.binds.now c.construct.new.binds c.go.new.self _ c.args.scope c.args.continuation _ c.in_ok-go.ensures.bounds c.in_ok-go.ensures.present (c.in_ok-task.ensures own terms _ refl)
