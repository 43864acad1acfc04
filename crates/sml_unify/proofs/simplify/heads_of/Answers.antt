use Rattle.std.proofs.Common.{◌≡◌, Some, sym, ap, ◌∙◌}
use Rattle.std.proofs.lemmas.Option.{slice_get-get_or}
use Rattle.sml_types.specs.declared.types.TyVar.{TyVar}
use Rattle.sml_types.specs.declared.types.TyForm.TheVariants.{Var}
use Rattle.sml_types.specs.Tree.{Variable, inst}
use Rattle.sml_unify.specs.Tasks.{straight, across}
use Rattle.sml_unify.proofs.Heads.{tree_var}
use Rattle.sml_unify.proofs.simplify.heads_of.Goals as goal

pub returns-then-x-y : goal.returns-then-x-y
returns-then-x-y c = λ f g.
    let p = slice_get-get_or c.args.forms.now c.head-left.result.0 c.index-forms-left.result c.head-left.ensures.there ∙ ap Some (sym c.index-forms-left.is) ∙ ap Some c.in-Var.is in
    let q = slice_get-get_or c.args.forms.now c.head-right.result.0 c.index-forms-right.result c.head-right.ensures.there ∙ ap Some (sym c.index-forms-right.is) ∙ ap Some c.in-Var-forms.is in
    let one = c.requires.solved.named c.head-left.result.0 c.head-right.result.0 c.in-Var.x c.in-Var-forms.y p q c.if-x-y.true in
    c.head-left.ensures.same f g
    ∙ ap (inst f) (tree_var c.args.forms.now c.args.bound.now c.head-left.result.0 c.in-Var.x c.requires.solved p ∙ ap Variable one ∙ sym (tree_var c.args.forms.now c.args.bound.now c.head-right.result.0 c.in-Var-forms.y c.requires.solved q))
    ∙ sym (c.head-right.ensures.same f g)

pub returns-then-not-y : goal.returns-then-not-y
returns-then-not-y c =
    let p = slice_get-get_or c.args.forms.now c.head-left.result.0 c.index-forms-left.result c.head-left.ensures.there ∙ ap Some (sym c.index-forms-left.is) ∙ ap Some c.in-Var.is in
    let q = slice_get-get_or c.args.forms.now c.head-right.result.0 c.index-forms-right.result c.head-right.ensures.there ∙ ap Some (sym c.index-forms-right.is) ∙ ap Some c.in-Var-forms.is in
    (record { var = c.in-Var-forms.y; here = q; unbound = c.head-right.ensures.free c.in-Var-forms.y (q); other = λ w e n. let one : c.in-Var.x ≡ w = cc in c.if-x-y.false (ap (λ (v : TyVar). v.num) one ∙ sym n); free = c.head-left.ensures.free; within = (c.head-right.ensures.there, c.head-left.ensures.there) }, across c.head-right.ensures.same c.head-left.ensures.same)

pub returns-else-x : goal.returns-else-x
returns-else-x c =
    let p = slice_get-get_or c.args.forms.now c.head-left.result.0 c.index-forms-left.result c.head-left.ensures.there ∙ ap Some (sym c.index-forms-left.is) ∙ ap Some c.in-Var.is in
    let q = slice_get-get_or c.args.forms.now c.head-right.result.0 c.index-forms-right.result c.head-right.ensures.there ∙ ap Some (sym c.index-forms-right.is) ∙ ap Some c.in-Var-forms.is in
    (record { var = c.in-Var.x; here = p; unbound = c.head-left.ensures.free c.in-Var.x (p); other = λ w e n. let one : c.in-Var-forms.y ≡ w = cc in c.if-x-y.false (n ∙ sym (ap (λ (v : TyVar). v.num) one)); free = c.head-right.ensures.free; within = (c.head-left.ensures.there, c.head-right.ensures.there) }, straight c.head-left.ensures.same c.head-right.ensures.same)

pub returns-in_default-forms : goal.returns-in_default-forms
returns-in_default-forms c =
    let p = slice_get-get_or c.args.forms.now c.head-left.result.0 c.index-forms-left.result c.head-left.ensures.there ∙ ap Some (sym c.index-forms-left.is) ∙ ap Some c.in-Var.is in
    let q = slice_get-get_or c.args.forms.now c.head-right.result.0 c.index-forms-right.result c.head-right.ensures.there ∙ ap Some (sym c.index-forms-right.is) in
    (record { var = c.in-Var.x; here = p; unbound = c.head-left.ensures.free c.in-Var.x (p); other = λ w e n. let one : c.index-forms-right.result ≡ Var w = cc in c.in_default-forms.not-Var w one; free = c.head-right.ensures.free; within = (c.head-left.ensures.there, c.head-right.ensures.there) }, straight c.head-left.ensures.same c.head-right.ensures.same)

pub returns-in-Var-forms-2 : goal.returns-in-Var-forms-2
returns-in-Var-forms-2 c =
    let p = slice_get-get_or c.args.forms.now c.head-left.result.0 c.index-forms-left.result c.head-left.ensures.there ∙ ap Some (sym c.index-forms-left.is) in
    let q = slice_get-get_or c.args.forms.now c.head-right.result.0 c.index-forms-right-in_default.result c.head-right.ensures.there ∙ ap Some (sym c.index-forms-right-in_default.is) ∙ ap Some c.in-Var-forms-2.is in
    (record { var = c.in-Var-forms-2.field-0; here = q; unbound = c.head-right.ensures.free c.in-Var-forms-2.field-0 (q); other = λ w e n. let one : c.index-forms-left.result ≡ Var w = cc in c.in_default.not-Var w one; free = c.head-left.ensures.free; within = (c.head-right.ensures.there, c.head-left.ensures.there) }, across c.head-right.ensures.same c.head-left.ensures.same)

pub returns-in_default-forms-2 : goal.returns-in_default-forms-2
returns-in_default-forms-2 c =
    let p = slice_get-get_or c.args.forms.now c.head-left.result.0 c.index-forms-left.result c.head-left.ensures.there ∙ ap Some (sym c.index-forms-left.is) in
    let q = slice_get-get_or c.args.forms.now c.head-right.result.0 c.index-forms-right-in_default.result c.head-right.ensures.there ∙ ap Some (sym c.index-forms-right-in_default.is) in
    record {
      within = (c.head-left.ensures.there, c.head-right.ensures.there);
      left = λ v e. c.in_default.not-Var v (let z : Some c.index-forms-left.result ≡ Some (Var v) = sym p ∙ e in cc);
      right = λ v e. c.in_default-forms-2.not-Var v (let z : Some c.index-forms-right-in_default.result ≡ Some (Var v) = sym q ∙ e in cc);
      left_same = c.head-left.ensures.same;
      right_same = c.head-right.ensures.same;
    }
