use Rattle.std.proofs.Common.{None, ◌≡◌, Some, true, false, refl, sym, ap, ◌∙◌, List, Option, subst}
use Rattle.std.specs.Prelude.{slice_get, Ok, Err}
use Rattle.sml_types.specs.declared.types.Ty.{Ty}
use Rattle.sml_types.specs.declared.types.TyVar.{TyVar}
use Rattle.sml_types.specs.declared.types.TyForm.{TyForm}
use Rattle.sml_types.specs.declared.types.TyForm.TheVariants.{Var}
use Rattle.sml_types.specs.Tree.{occurs, admits}
use Rattle.sml_unify.specs.Solved.{meant, under}
use Rattle.sml_unify.specs.Simplified.{IsMarking, IsToMark}
use Rattle.sml_unify.specs.Steps.{IsLonger, AreFreshFrom}
use Rattle.sml_unify.specs.Outcomes.{IsStep}
use Rattle.sml_unify.proofs.Extends.{new_longer}
use Rattle.sml_unify.proofs.PairSteps.{cycle_named, marking_error, step_bound, step_marked}
use Rattle.sml_unify.proofs.solve.bind_pair.Goals.{then-var+in-Ok-None, else-var}
use Rattle.sml_unify.proofs.Fresh.{fresh_one}
use Rattle.sml_unify.proofs.Counters.{number_below}
use Rattle.sml_unify.proofs.solve.bind_pair.Goals as goal

pub returns-then-branch-clause-step : goal.returns-then-branch-clause-step
returns-then-branch-clause-step c =
    let q : slice_get c.args.types.now c.args.pair.left.0 ≡ Some (Var c.variable-var.result) = sym (ap (λ F. slice_get F c.args.pair.left.0) c.forms.ensures.forms) ∙ c.variable-var.ensures in
    let one : c.requires.pair.var ≡ c.variable-var.result = cc (q, c.requires.pair.here) in
    let o = sym (ap (λ F. occurs c.variable-var.result.num (under F (meant F c.items.result.now) c.args.pair.right.0)) c.forms-2.ensures.forms ∙ ap (λ D. occurs c.variable-var.result.num (under c.args.types.now (meant c.args.types.now D) c.args.pair.right.0)) c.items.ensures) ∙ sym c.in_ok-stands_in.ensures ∙ c.if-branch.true in
    cycle_named c.args.names.now c.args.types.now c.args.bound.now c.requires.solved c.args.pair c.requires.pair c.variable-var.result one o

pub returns-in-Err-clause-step : goal.returns-in-Err-clause-step
returns-in-Err-clause-step c =
    let q : slice_get c.args.types.now c.args.pair.left.0 ≡ Some (Var c.variable-var.result) = sym (ap (λ F. slice_get F c.args.pair.left.0) c.forms.ensures.forms) ∙ c.variable-var.ensures in
    let one : c.requires.pair.var ≡ c.variable-var.result = cc (q, c.requires.pair.here) in
    let o = sym (ap (λ F. occurs c.variable-var.result.num (under F (meant F c.items.result.now) c.args.pair.right.0)) c.forms-2.ensures.forms ∙ ap (λ D. occurs c.variable-var.result.num (under c.args.types.now (meant c.args.types.now D) c.args.pair.right.0)) c.items.ensures) ∙ sym c.in_ok-stands_in.ensures ∙ c.if-branch.false in
    marking_error c.args.names.now c.args.types.now c.args.bound.now c.requires.solved c.args.pair c.requires.pair c.variable-var.result one c.args.next.now c.in-Err.e c.if-var.true o (subst (λ (D : List (Option Ty)). IsMarking c.args.names.now c.args.types.now D c.args.pair.right.0 (Err c.in-Err.e)) c.items-then-var.ensures (subst (λ (F : List TyForm). IsMarking c.args.names.now F c.items-then-var.result.now c.args.pair.right.0 (Err c.in-Err.e)) c.forms-then-var.ensures.forms c.in-Err.ensures))

pub returns-in_err-bind_logged-in-Ok-Some-clause-longer : goal.returns-in_err-bind_logged-in-Ok-Some-clause-longer
returns-in_err-bind_logged-in-Ok-Some-clause-longer c =
    let e = c.in_ok-marked-in-Ok-Some.ensures.ok.1 in
    subst (λ (F : List TyForm). IsLonger c.args.types.now F) (sym e) (new_longer c.args.types.now c.args.bound.now c.requires.solved (record { num = c.args.next.now; eq = true }) (number_below c.args.types.now c.args.bound.now c.args.next.now c.requires.below c.requires.short))

pub returns-in-Ok-Some-clause-longer : goal.returns-in-Ok-Some-clause-longer
returns-in-Ok-Some-clause-longer c =
    let e = c.in_ok-marked-in-Ok-Some.ensures.ok.1 in
    subst (λ (F : List TyForm). IsLonger c.args.types.now F) (sym e) (new_longer c.args.types.now c.args.bound.now c.requires.solved (record { num = c.args.next.now; eq = true }) (number_below c.args.types.now c.args.bound.now c.args.next.now c.requires.below c.requires.short))

pub returns-in-Ok-Some-clause-step : goal.returns-in-Ok-Some-clause-step
returns-in-Ok-Some-clause-step c =
    let q : slice_get c.args.types.now c.args.pair.left.0 ≡ Some (Var c.variable-var.result) = sym (ap (λ F. slice_get F c.args.pair.left.0) c.forms.ensures.forms) ∙ c.variable-var.ensures in
    let one : c.requires.pair.var ≡ c.variable-var.result = cc (q, c.requires.pair.here) in
    let e = c.in_ok-marked-in-Ok-Some.ensures.ok.1 in
    let o = sym (ap (λ F. occurs c.variable-var.result.num (under F (meant F c.items.result.now) c.args.pair.right.0)) c.forms-2.ensures.forms ∙ ap (λ D. occurs c.variable-var.result.num (under c.args.types.now (meant c.args.types.now D) c.args.pair.right.0)) c.items.ensures) ∙ sym c.in_ok-stands_in.ensures ∙ c.if-branch.false in
    let m : IsToMark c.args.names.now c.args.types.now c.args.bound.now c.args.pair.right.0 c.in-Ok-Some.other = subst (λ (D : List (Option Ty)). IsMarking c.args.names.now c.args.types.now D c.args.pair.right.0 (Ok (Some c.in-Ok-Some.other))) c.items-then-var.ensures (subst (λ (F : List TyForm). IsMarking c.args.names.now F c.items-then-var.result.now c.args.pair.right.0 (Ok (Some c.in-Ok-Some.other))) c.forms-then-var.ensures.forms (subst (λ (o : Option TyVar). IsMarking c.args.names.now c.forms-then-var.result.now c.items-then-var.result.now c.args.pair.right.0 (Ok o)) c.in-Ok-Some.field-0-is c.in-Ok-Some.ensures)) in
    subst
    (λ (F : List TyForm). IsStep c.args.names.now c.args.next.now c.args.types.now c.args.bound.now c.args.pair F c.bind_logged.new.bound (Ok false))
    (sym e)
    (step_marked c.args.names.now c.args.types.now c.args.bound.now c.requires.solved c.args.pair c.requires.pair c.variable-var.result one c.args.next.now (number_below c.args.types.now c.args.bound.now c.args.next.now c.requires.below c.requires.short) c.if-var.true o c.in-Ok-Some.other m c.in_ok-marked-in-Ok-Some.marked c.in_ok-marked-in-Ok-Some.ensures.ok.0 c.bind_logged.new.bound c.in_ok-bind_logged-in-Ok-Some.ensures.ok c.bind_logged.ensures.longer)

pub returns-clause-step : goal.returns-clause-step
returns-clause-step c =
    let q : slice_get c.args.types.now c.args.pair.left.0 ≡ Some (Var c.variable-var.result) = sym (ap (λ F. slice_get F c.args.pair.left.0) c.forms.ensures.forms) ∙ c.variable-var.ensures in
    let one : c.requires.pair.var ≡ c.variable-var.result = cc (q, c.requires.pair.here) in
    let o = sym (ap (λ F. occurs c.variable-var.result.num (under F (meant F c.items.result.now) c.args.pair.right.0)) c.forms-2.ensures.forms ∙ ap (λ D. occurs c.variable-var.result.num (under c.args.types.now (meant c.args.types.now D) c.args.pair.right.0)) c.items.ensures) ∙ sym c.in_ok-stands_in.ensures ∙ c.if-branch.false in
    let marked : c.variable-var.result.eq ≡ true → admits c.args.names.now (under c.args.types.now (meant c.args.types.now c.args.bound.now) c.args.pair.right.0) ≡ true =
    elim c.if-var.branch [
      | then-var+in-Ok-None w ↦ λ e. subst (λ (D : List (Option Ty)). IsMarking c.args.names.now c.args.types.now D c.args.pair.right.0 (Ok None)) w.items-then-var.ensures (subst (λ (F : List TyForm). IsMarking c.args.names.now F w.items-then-var.result.now c.args.pair.right.0 (Ok None)) w.forms-then-var.ensures.forms (subst (λ (o : Option TyVar). IsMarking c.args.names.now w.forms-then-var.result.now w.items-then-var.result.now c.args.pair.right.0 (Ok o)) w.in-Ok-None.field-0-is w.in-Ok-None.ensures))
      | else-var w ↦ λ e. cc (e, w.if-var.false)
    ] in
    step_bound c.args.names.now c.args.types.now c.args.bound.now c.requires.solved c.args.pair c.requires.pair c.variable-var.result one c.args.next.now o c.bind_logged-2.new.bound c.in_ok-bind_logged.ensures.ok c.bind_logged-2.ensures.longer marked

pub returns-in_err-bind_logged-in-Ok-Some-clause-fresh : goal.returns-in_err-bind_logged-in-Ok-Some-clause-fresh
returns-in_err-bind_logged-in-Ok-Some-clause-fresh c =
    let e = c.in_ok-marked-in-Ok-Some.ensures.ok.1 in
    subst (λ (F : List TyForm). AreFreshFrom c.args.next.now c.args.types.now F) (sym e) (fresh_one c.args.next.now c.args.types.now (record { num = c.args.next.now; eq = true }) refl refl)

pub returns-in-Ok-Some-clause-fresh : goal.returns-in-Ok-Some-clause-fresh
returns-in-Ok-Some-clause-fresh c =
    let e = c.in_ok-marked-in-Ok-Some.ensures.ok.1 in
    subst (λ (F : List TyForm). AreFreshFrom c.args.next.now c.args.types.now F) (sym e) (fresh_one c.args.next.now c.args.types.now (record { num = c.args.next.now; eq = true }) refl refl)
