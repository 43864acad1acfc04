use Rattle.std.proofs.Common.{false}
use Rattle.std.proofs.lemmas.Result.{IfOk-weaker}
use Rattle.convert_decide.specs.Decide.{item_in}
use Rattle.convert_terms.proofs.Formed.{a_tuple, an_application, a_match, a_function, a_raise, a_handle, a_place, a_let, a_leaf}
use Rattle.convert_terms.proofs.terms.form.Goals as goal

pub returns-in_ok-task-in-Tuple : goal.returns-in_ok-task-in-Tuple
returns-in_ok-task-in-Tuple c = a_tuple (item_in false c.args.source.own.now) c.args.source.terms.now c.args.world.now _ c.args.binds.now _ c.args.at c.args.next c.args.term.now c.in-Tuple.field-0 c.args.scope c.args.continuation _ c.requires.stands c.in-Tuple.is c.in_ok-task-in-Tuple.ensures

pub returns-in_ok-task-in-App : goal.returns-in_ok-task-in-App
returns-in_ok-task-in-App c = an_application (item_in false c.args.source.own.now) c.args.source.terms.now c.args.world.now _ c.args.binds.now _ c.args.at c.args.next c.args.term.now c.in-App.function c.in-App.argument c.args.scope c.args.continuation _ c.in-App.is c.in_ok-task-in-App.ensures

pub returns-in_ok-task-in-Match : goal.returns-in_ok-task-in-Match
returns-in_ok-task-in-Match c = a_match (item_in false c.args.source.own.now) c.args.source.terms.now c.args.world.now _ c.args.binds.now _ c.args.at c.args.next c.args.term.now c.in-Match.subject c.in-Match.field-1 c.args.scope c.args.continuation _ c.requires.stands c.in-Match.is c.in_ok-task-in-Match.ensures

pub returns-in_ok-task-in-Fn : goal.returns-in_ok-task-in-Fn
returns-in_ok-task-in-Fn c = a_function (item_in false c.args.source.own.now) c.args.source.terms.now c.args.world.now _ c.args.binds.now _ c.args.at c.args.next c.args.term.now c.in-Fn.field-0 c.args.scope c.args.continuation _ c.requires.stands c.in-Fn.is c.in_ok-task-in-Fn.ensures

pub returns-in_ok-task-in-Raise : goal.returns-in_ok-task-in-Raise
returns-in_ok-task-in-Raise c = a_raise (item_in false c.args.source.own.now) c.args.source.terms.now c.args.world.now _ c.args.binds.now _ c.args.at c.args.next c.args.term.now c.in-Raise.packet c.args.scope c.args.continuation _ c.in-Raise.is c.in_ok-task-in-Raise.ensures

pub returns-in_ok-task-in-Handle : goal.returns-in_ok-task-in-Handle
returns-in_ok-task-in-Handle c = a_handle (item_in false c.args.source.own.now) c.args.source.terms.now c.args.world.now _ c.args.binds.now _ c.args.at c.args.next c.args.term.now c.in-Handle.inner c.in-Handle.field-1 c.args.scope c.args.continuation _ c.requires.stands c.in-Handle.is c.in_ok-task-in-Handle.ensures

pub returns-in-Same : goal.returns-in-Same
returns-in-Same c = a_place (item_in false c.args.source.own.now) c.args.source.terms.now c.args.world.now c.args.binds.now c.args.at c.args.next c.args.term.now c.in-Same.inner c.args.scope c.args.continuation c.in-Same.is

pub returns-in-Let : goal.returns-in-Let
returns-in-Let c =
    IfOk-weaker c.declare.result _ _
    (λ s h. a_let (item_in false c.args.source.own.now) c.args.source.terms.now c.args.world.now _ c.args.binds.now _ c.args.at c.args.next c.args.term.now c.in-Let.declaration c.in-Let.body c.args.scope c.args.continuation s c.in-Let.is h)
    c.declare.ensures

pub returns-in_default : goal.returns-in_default
returns-in_default c =
    IfOk-weaker c.give_leaf.result _ _
    (λ s h.
    a_leaf (item_in false c.args.source.own.now) c.args.source.terms.now c.args.world.now _ c.args.binds.now c.args.binds.now c.args.at c.args.next c.args.term.now c.args.scope c.args.continuation s c.in_default.not-Tuple c.in_default.not-App c.in_default.not-Match c.in_default.not-Fn c.in_default.not-Raise c.in_default.not-Handle c.in_default.not-Same c.in_default.not-Let
    (h (item_in false c.args.source.own.now) c.args.source.terms.now c.args.binds.now))
    c.give_leaf.ensures
