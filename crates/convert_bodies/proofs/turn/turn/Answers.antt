use Rattle.std.proofs.Common.{false}
use Rattle.std.proofs.lemmas.Result.{IfOk-weaker}
use Rattle.convert_decide.specs.Decide.{item_in}
use Rattle.convert_bodies.proofs.Turned.{at_work, thrown}
use Rattle.convert_bodies.proofs.turn.turn.Goals as goal

pub returns-in-Term : goal.returns-in-Term
returns-in-Term c =
    IfOk-weaker c.term.result _ _
    (λ s h. at_work (item_in false c.args.source.own.now) c.args.source.terms.now c.args.world.now _ c.args.binds.now _ c.args.task.work _ c.args.task.scope c.args.task.next c.args.task.continuation s c.in-Term.is h)
    c.term.ensures

pub returns-in-Give : goal.returns-in-Give
returns-in-Give c =
    IfOk-weaker c.give.result _ _
    (λ s h. at_work (item_in false c.args.source.own.now) c.args.source.terms.now c.args.world.now _ c.args.binds.now _ c.args.task.work _ c.args.task.scope c.args.task.next c.args.task.continuation s c.in-Give.is h)
    c.give.ensures

pub returns-in-Rules : goal.returns-in-Rules
returns-in-Rules c =
    IfOk-weaker c.match_on.result _ _
    (λ s h. at_work (item_in false c.args.source.own.now) c.args.source.terms.now c.args.world.now _ c.args.binds.now _ c.args.task.work _ c.args.task.scope c.args.task.next c.args.task.continuation s c.in-Rules.is (h c.args.binds.now))
    c.match_on.ensures

pub returns-in-Caught : goal.returns-in-Caught
returns-in-Caught c =
    IfOk-weaker c.caught.result _ _
    (λ s h. at_work (item_in false c.args.source.own.now) c.args.source.terms.now c.args.world.now _ c.args.binds.now _ c.args.task.work _ c.args.task.scope c.args.task.next c.args.task.continuation s c.in-Caught.is h)
    c.caught.ensures

pub returns-in-Popped : goal.returns-in-Popped
returns-in-Popped c =
    IfOk-weaker c.popped.result _ _
    (λ s h. at_work (item_in false c.args.source.own.now) c.args.source.terms.now c.args.world.now _ c.args.binds.now _ c.args.task.work _ c.args.task.scope c.args.task.next c.args.task.continuation s c.in-Popped.is (h (item_in false c.args.source.own.now) c.args.source.terms.now c.args.world.now))
    c.popped.ensures

pub returns-in_ok-task-in-Rule : goal.returns-in_ok-task-in-Rule
returns-in_ok-task-in-Rule c = at_work (item_in false c.args.source.own.now) c.args.source.terms.now c.args.world.now _ c.args.binds.now _ c.args.task.work _ c.args.task.scope c.args.task.next c.args.task.continuation _ c.in-Rule.is c.in_ok-task-in-Rule.ensures

pub returns-in_ok-task-in-Bound : goal.returns-in_ok-task-in-Bound
returns-in_ok-task-in-Bound c = at_work (item_in false c.args.source.own.now) c.args.source.terms.now c.args.world.now _ c.args.binds.now _ c.args.task.work _ c.args.task.scope c.args.task.next c.args.task.continuation _ c.in-Bound.is c.in_ok-task-in-Bound.ensures

pub returns-in_ok-task-in-Bindings : goal.returns-in_ok-task-in-Bindings
returns-in_ok-task-in-Bindings c = at_work (item_in false c.args.source.own.now) c.args.source.terms.now c.args.world.now _ c.args.binds.now _ c.args.task.work _ c.args.task.scope c.args.task.next c.args.task.continuation _ c.in-Bindings.is c.in_ok-task-in-Bindings.ensures

pub returns-in-Throw : goal.returns-in-Throw
returns-in-Throw c =
    at_work (item_in false c.args.source.own.now) c.args.source.terms.now c.args.world.now c.args.world.now c.args.binds.now c.args.binds.now c.args.task.work _ c.args.task.scope c.args.task.next c.args.task.continuation _ c.in-Throw.is
    (thrown (item_in false c.args.source.own.now) c.args.source.terms.now c.args.world.now c.args.binds.now c.in-Throw.packet c.args.task.scope c.args.task.next c.args.task.continuation)
