use Rattle.std.proofs.Common.{false}
use Rattle.convert_decide.specs.Decide.{item_in}
use Rattle.convert_steps.proofs.Resumed.{part_came}
use Rattle.convert_steps.proofs.frames.next_part.Goals as goal

pub returns : goal.returns
returns c =
    part_came (item_in false c.args.source.own.now) c.args.source.terms.now c.args.world.now c.parts.new.world c.args.binds.now c.parts.new.binds c.args.tuple c.args.scope c.args.next c.args.before _ c.args.value c.args.continuation _ c.in_ok-push.ensures.ok c.in_ok-task.ensures
