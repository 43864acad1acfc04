use Rattle.std.proofs.Common.{false}
use Rattle.std.proofs.lemmas.Result.{IfOk-weaker}
use Rattle.convert_decide.specs.Decide.{item_in}
use Rattle.convert_steps.proofs.Resumed.{at_awaits, halted, raised}
use Rattle.convert_steps.proofs.frames.resume.Goals as goal

pub returns-in-End : goal.returns-in-End
returns-in-End c =
    let own = item_in false c.args.source.own.now in
    let terms = c.args.source.terms.now in
    at_awaits own terms c.args.world.now c.args.world.now c.args.binds.now c.args.binds.now c.args.frame.awaits _ c.args.frame.scope c.args.next c.args.value c.args.frame.continuation _ c.in-End.is (halted own terms c.args.world.now c.args.binds.now c.args.frame.scope c.args.next c.args.value c.args.frame.continuation)

pub returns-in-Packet : goal.returns-in-Packet
returns-in-Packet c =
    let own = item_in false c.args.source.own.now in
    let terms = c.args.source.terms.now in
    at_awaits own terms c.args.world.now c.args.world.now c.args.binds.now c.args.binds.now c.args.frame.awaits _ c.args.frame.scope c.args.next c.args.value c.args.frame.continuation _ c.in-Packet.is (raised own terms c.args.world.now c.args.binds.now c.args.frame.scope c.args.next c.args.value c.args.frame.continuation)

pub returns-in-Part : goal.returns-in-Part
returns-in-Part c =
    IfOk-weaker c.next_part.result _ _
    (λ s h. at_awaits (item_in false c.args.source.own.now) c.args.source.terms.now c.args.world.now _ c.args.binds.now _ c.args.frame.awaits _ c.args.frame.scope c.args.next c.args.value c.args.frame.continuation s c.in-Part.is (h))
    c.next_part.ensures

pub returns-in-Function : goal.returns-in-Function
returns-in-Function c =
    IfOk-weaker c.next_argument.result _ _
    (λ s h. at_awaits (item_in false c.args.source.own.now) c.args.source.terms.now c.args.world.now _ c.args.binds.now _ c.args.frame.awaits _ c.args.frame.scope c.args.next c.args.value c.args.frame.continuation s c.in-Function.is (h))
    c.next_argument.ensures

pub returns-in-Argument : goal.returns-in-Argument
returns-in-Argument c =
    IfOk-weaker c.call.result _ _
    (λ s h. at_awaits (item_in false c.args.source.own.now) c.args.source.terms.now c.args.world.now _ c.args.binds.now _ c.args.frame.awaits _ c.args.frame.scope c.args.next c.args.value c.args.frame.continuation s c.in-Argument.is (h (item_in false c.args.source.own.now) c.args.source.terms.now c.args.world.now c.args.binds.now))
    c.call.ensures

pub returns-in-Builtin : goal.returns-in-Builtin
returns-in-Builtin c =
    IfOk-weaker c.builtin.result _ _
    (λ s h. at_awaits (item_in false c.args.source.own.now) c.args.source.terms.now c.args.world.now _ c.args.binds.now _ c.args.frame.awaits _ c.args.frame.scope c.args.next c.args.value c.args.frame.continuation s c.in-Builtin.is (h (item_in false c.args.source.own.now) c.args.source.terms.now c.args.world.now))
    c.builtin.ensures

pub returns-in-Constructor : goal.returns-in-Constructor
returns-in-Constructor c =
    IfOk-weaker c.constructed.result _ _
    (λ s h. at_awaits (item_in false c.args.source.own.now) c.args.source.terms.now c.args.world.now _ c.args.binds.now _ c.args.frame.awaits _ c.args.frame.scope c.args.next c.args.value c.args.frame.continuation s c.in-Constructor.is (h (item_in false c.args.source.own.now) c.args.source.terms.now))
    c.constructed.ensures

pub returns-in-Subject : goal.returns-in-Subject
returns-in-Subject c =
    IfOk-weaker c.match_on.result _ _
    (λ s h. at_awaits (item_in false c.args.source.own.now) c.args.source.terms.now c.args.world.now _ c.args.binds.now _ c.args.frame.awaits _ c.args.frame.scope c.args.next c.args.value c.args.frame.continuation s c.in-Subject.is (h c.args.binds.now))
    c.match_on.ensures

pub returns-in-Right : goal.returns-in-Right
returns-in-Right c =
    IfOk-weaker c.right.result _ _
    (λ s h. at_awaits (item_in false c.args.source.own.now) c.args.source.terms.now c.args.world.now _ c.args.binds.now _ c.args.frame.awaits _ c.args.frame.scope c.args.next c.args.value c.args.frame.continuation s c.in-Right.is (h c.args.binds.now))
    c.right.ensures
