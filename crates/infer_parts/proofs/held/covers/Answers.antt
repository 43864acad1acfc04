use Rattle.std.proofs.Common.{rules, ◌+◌, ◌≡◌, Bool, length, List, Some, sym, ap, ◌∙◌, subst, arith}
use Rattle.std.proofs.lemmas.Option.{slice_get-get_or}
use Rattle.sml_types.specs.declared.types.TyForm.{TyForm}
use Rattle.sml_types.specs.Forms.{tree, IsNumbered}
use Rattle.infer_parts.specs.Held.{AreHeld, held_at, holds, among, in_any, covers_form}
use Rattle.infer_parts.proofs.HeldFacts.{next_held, covers_next, decided}
use Rattle.infer_parts.proofs.held.covers.Goals as goal

pub forms-preserved : goal.forms-preserved
forms-preserved c =
    let hi = c.forms-test.true in
    let count = ap length c.forms-forms.ensures.forms in
    let there = c.requires in
    let numbered = subst IsNumbered (sym c.forms-forms.ensures.forms) c.forms-forms.ensures.kept.numbered in
    let here = slice_get-get_or c.forms-forms.result.now c.forms.at c.index-forms-at.result (omega arith) ∙ ap Some (sym c.index-forms-at.is) in
    let now = c.covers_form-now.ensures ∙ ap (λ (table : List Bool). covers_form c.in_ok-first.first table c.args.vars.now c.index-forms-at.result) c.deref.ensures.value in
    subst
    (λ (table : List Bool). AreHeld (among c.args.vars.now) in_any c.forms-forms.result.now c.in_ok-first.first (c.forms.at + 1) table)
    (sym c.in_ok-push.ensures.items)
    (next_held (among c.args.vars.now) in_any c.forms-forms.result.now c.in_ok-first.first c.forms.at c.forms.table.items c.covers_form-now.result c.forms.invariant (now ∙ covers_next c.args.vars.now c.forms-forms.result.now c.in_ok-first.first c.forms.at c.forms.table.items c.index-forms-at.result numbered c.forms.invariant here (c.in_ok-first.ensures.closed c.forms.at c.index-forms-at.result c.forms.auto.at (omega arith) here)))

pub returns : goal.returns
returns c =
    let below = c.in_ok-first.ensures.below in
    let is : c.held_at.result ≡ holds (among c.args.vars.now) in_any (tree c.args.types.now c.args.ty.0) = c.held_at.ensures ∙ ap (λ (table : List Bool). held_at c.in_ok-first.first table c.args.ty.0) c.deref-2.ensures.value ∙ c.forms.invariant.each c.args.ty.0 below (search rules) ∙ ap (λ (fs : List TyForm). holds (among c.args.vars.now) in_any (tree fs c.args.ty.0)) c.forms-forms.ensures.forms in
    decided c.held_at.result c.args.vars.now (tree c.args.types.now c.args.ty.0) is
