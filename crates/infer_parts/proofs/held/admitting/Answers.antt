use Rattle.std.proofs.Common.{◌+◌, Bool, length, List, Some, sym, ap, ◌∙◌, subst, arith}
use Rattle.std.specs.Prelude.{slice_get}
use Rattle.std.proofs.lemmas.Option.{slice_get-get_or}
use Rattle.sml_types.specs.declared.types.TyForm.{TyForm}
use Rattle.sml_types.specs.Forms.{IsNumbered}
use Rattle.infer_parts.specs.Held.{AreHeld, any_var, by_names, admits_form}
use Rattle.infer_parts.proofs.HeldFacts.{next_held, admits_next}
use Rattle.infer_parts.proofs.held.admitting.Goals as goal

pub forms-preserved : goal.forms-preserved
forms-preserved c =
    let hi = c.forms-test.true in
    let count = ap length c.forms-forms.ensures.forms in
    let there = c.requires in
    let numbered = subst IsNumbered (sym c.forms-forms.ensures.forms) c.forms-forms.ensures.kept.numbered in
    let here = slice_get-get_or c.forms-forms.result.now c.forms.at c.index-forms-at.result (omega arith) ∙ ap Some (sym c.index-forms-at.is) in
    let now = c.admits_form-now.ensures ∙ ap (λ (table : List Bool). admits_form c.args.first table c.args.names.now c.index-forms-at.result) c.deref.ensures.value in
    subst
    (λ (table : List Bool). AreHeld any_var (by_names c.args.names.now) c.forms-forms.result.now c.args.first (c.forms.at + 1) table)
    (sym c.in_ok-push.ensures.items)
    (next_held any_var (by_names c.args.names.now) c.forms-forms.result.now c.args.first c.forms.at c.forms.table.items c.admits_form-now.result c.forms.invariant (now ∙ admits_next c.args.names.now c.forms-forms.result.now c.args.first c.forms.at c.forms.table.items c.index-forms-at.result numbered c.forms.invariant here (c.requires.segment c.forms.at c.index-forms-at.result c.forms.auto.at (omega arith) (ap (λ (fs : List TyForm). slice_get fs c.forms.at) (sym c.forms-forms.ensures.forms) ∙ here))))
