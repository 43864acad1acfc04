use Rattle.std.proofs.Common.{false}
use Rattle.std.proofs.lemmas.Result.{IfOk-weaker}
use Rattle.convert_decide.specs.Decide.{item_in}
use Rattle.convert_steps.proofs.Handled.{caught_written}
use Rattle.convert_steps.proofs.handles.caught.Goals as goal

pub returns : goal.returns
returns c =
    IfOk-weaker c.match_on.result _ _
    (λ s h. caught_written (item_in false c.args.source.own.now) c.args.source.terms.now c.args.world.now c.match_on.new.world c.args.binds.now _ c.args.term c.args.scope c.args.next c.in_ok-packet.packet c.in_ok-inside.inside c.args.continuation s c.in_ok-packet.ensures c.in_ok-inside.ensures c.in_ok-push.ensures.ok (h _))
    c.match_on.ensures
