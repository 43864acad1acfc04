use Rattle.std.proofs.Common.{◌≡◌, false, sym, ap, ◌∙◌, Some, None, slice_get}
use Rattle.std.proofs.lemmas.Option.{slice_get-get_or, slice_get_past}
use Rattle.std.proofs.lemmas.Result.{IfOk-weaker}
use Rattle.convert_decide.specs.Decide.{item_in}
use Rattle.convert_terms.proofs.Formed.{declared_at, declared_nowhere}
use Rattle.convert_terms.proofs.declarations.declare.Goals as goal

pub returns-in-Some : goal.returns-in-Some
returns-in-Some c =
    let stands : slice_get c.args.source.terms.now c.args.declaration ≡ Some c.in-Some.term.now = slice_get-get_or c.args.source.terms.now c.args.declaration c.in-Some.term.now c.in-Some.ensures.lookup.3.0 ∙ ap Some (sym c.in-Some.ensures.lookup.1) in
    IfOk-weaker c.form.result _ _
    (λ s h. declared_at (item_in false c.args.source.own.now) c.args.source.terms.now c.args.world.now _ c.args.binds.now _ c.args.declaration c.args.body c.args.next _ c.args.scope c.args.continuation s stands h)
    c.form.ensures

pub returns-in-None : goal.returns-in-None
returns-in-None c =
    let none : slice_get c.args.source.terms.now c.args.declaration ≡ None = slice_get_past c.args.source.terms.now c.args.declaration c.in-None.ensures.lookup.3 in
    declared_nowhere (item_in false c.args.source.own.now) c.args.source.terms.now c.args.world.now c.args.binds.now c.args.declaration c.args.body c.args.next c.args.scope c.args.continuation none
