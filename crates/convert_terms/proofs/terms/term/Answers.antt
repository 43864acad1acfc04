use Rattle.std.proofs.Common.{◌≡◌, false, sym, ap, ◌∙◌, Some, slice_get}
use Rattle.std.proofs.lemmas.Option.{slice_get-get_or}
use Rattle.std.proofs.lemmas.Result.{IfOk-weaker}
use Rattle.convert_decide.specs.Decide.{item_in}
use Rattle.convert_terms.proofs.Formed.{term_at, term_nowhere}
use Rattle.convert_terms.proofs.terms.term.Goals as goal

pub returns-in-Some : goal.returns-in-Some
returns-in-Some c =
    let stands : slice_get c.args.source.terms.now c.args.at ≡ Some c.in-Some.term.now = slice_get-get_or c.args.source.terms.now c.args.at c.in-Some.term.now c.in-Some.ensures.lookup.3.0 ∙ ap Some (sym c.in-Some.ensures.lookup.1) in
    IfOk-weaker c.form.result _ _
    (λ s h. term_at (item_in false c.args.source.own.now) c.args.source.terms.now c.args.world.now _ c.args.binds.now _ c.args.at c.args.next _ c.args.scope c.args.continuation s c.requires.numbered stands h)
    c.form.ensures

pub returns-in-None : goal.returns-in-None
returns-in-None c =
    term_nowhere (item_in false c.args.source.own.now) c.args.source.terms.now c.args.world.now c.args.binds.now c.args.at c.args.next c.args.scope c.args.continuation c.requires.numbered c.in-None.ensures.lookup.3
