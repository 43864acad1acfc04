-- The answers of one step.
use Rattle.std.proofs.Common.{◌≡◌, ℕ, ◌≤◌, true, false, List, [], ◌∷◌, ◌++◌, length, Option, refl, sym, ap, ◌∙◌, subst}
use Rattle.std.specs.Prelude.{Ok, Err}
use Rattle.sml_types.specs.declared.types.Ty.{Ty}
use Rattle.sml_types.specs.declared.types.TyVar.{TyVar}
use Rattle.sml_types.specs.declared.types.TyForm.{TyForm}
use Rattle.sml_types.specs.declared.types.TyForm.TheVariants.{Var}
use Rattle.sml_types.specs.declared.tables.TypeName.{TypeName}
use Rattle.sml_types.specs.Tree.{inst, occurs, admits}
use Rattle.sml_unify.specs.declared.pair.Pair.{Pair}
use Rattle.sml_unify.specs.declared.error.UnifyError.{UnifyError}
use Rattle.sml_unify.specs.declared.error.UnifyError.TheVariants.{Clash, Cycle, NoEquality, NoMemory}
use Rattle.sml_unify.specs.Solved.{Substitution, Solves, IsSolved, IsBoundTo, next_number, meant, under, IsEqualPair}
use Rattle.sml_unify.specs.Simplified.{IsBinding, IsMarking, IsToMark}
use Rattle.sml_unify.specs.Steps.{IsRefuted}
use Rattle.sml_unify.specs.Outcomes.{IsStep}
use Rattle.sml_unify.proofs.Heads.{tree_var}
use Rattle.sml_unify.proofs.Known.{no_cycle}
use Rattle.sml_unify.proofs.Counters.{extension_below}
use Rattle.sml_unify.proofs.Extends.{bind_extends, bind_settles, bind_falls, mark_extends, mark_falls, mark_left, mark_right}
use Rattle.sml_unify.specs.Named as named
use Rattle.sml_unify.specs.Named.{Fails}
use Rattle.sml_unify.proofs.MarkFails.{left_var, right_no_var, mark_fails}

module _ (names : List TypeName) (forms : List TyForm) (bound : List (Option Ty)) (s : IsSolved forms bound) (p : Pair) (k : IsBinding forms bound p) (v : TyVar) (one : k.var ≡ v) where
  value : (f : Substitution) → IsEqualPair forms f p → f k.var ≡ under forms f p.right.0
  value f e = sym (ap (inst f) (tree_var forms bound p.left.0 k.var s k.here)) ∙ e

  pub cycle : occurs v.num (under forms (meant forms bound) p.right.0) ≡ true → IsRefuted names forms bound (p ∷ [])
  cycle o f r h e =
      no_cycle forms bound s f h p k (ap (λ (u : TyVar). occurs u.num (under forms (meant forms bound) p.right.0)) one ∙ o) (value f e.0)

  pub refused : v.eq ≡ true → ((f : Substitution) → Solves forms bound f → admits names (under forms f p.right.0) ≡ true → ⊥) → IsRefuted names forms bound (p ∷ [])
  refused m n f r h e =
      n f h (sym (ap (admits names) (value f e.0)) ∙ r p.left.0 k.var k.here (ap (λ (u : TyVar). u.eq) one ∙ m))

  pub cycle_named : occurs v.num (under forms (meant forms bound) p.right.0) ≡ true → IsRefuted names forms bound (p ∷ []) × ((rest : List Pair) → Fails names forms bound (p ∷ rest) Cycle)
  cycle_named o =
      (cycle o, λ rest. named.cycle k.var (left_var forms bound s p k) (ap (λ (u : TyVar). occurs u.num (under forms (meant forms bound) p.right.0)) one ∙ o) (right_no_var forms bound s p k))

  -- an error of the search for marks
  pub marking_error : (next : ℕ) (e : UnifyError) → v.eq ≡ true → occurs v.num (under forms (meant forms bound) p.right.0) ≡ false → IsMarking names forms bound p.right.0 (Err e) → IsStep names next forms bound p forms bound (Err e)
  marking_error next Clash m o h = h
  marking_error next Cycle m o h = absurd h
  marking_error next NoEquality m o h =
      (refused m h, λ rest. named.no_equality k.var (left_var forms bound s p k) (ap (λ (u : TyVar). occurs u.num (under forms (meant forms bound) p.right.0)) one ∙ o) (refused m h))
  marking_error next NoMemory m o h = tt

  pub step_bound : (next : ℕ) → occurs v.num (under forms (meant forms bound) p.right.0) ≡ false → (after : List (Option Ty)) → IsBoundTo bound v.num p.right after → length bound ≤ length after → (v.eq ≡ true → admits names (under forms (meant forms bound) p.right.0) ≡ true) → IsStep names next forms bound p forms after (Ok true)
  step_bound next o after b more marked =
      let clear = ap (λ (u : TyVar). occurs u.num (under forms (meant forms bound) p.right.0)) one ∙ o in
      let c : IsBoundTo bound k.var.num p.right after = subst (λ (u : TyVar). IsBoundTo bound u.num p.right after) (sym one) b in
      let k2 : k.var.eq ≡ true → admits names (under forms (meant forms bound) p.right.0) ≡ true = λ e. marked (sym (ap (λ (u : TyVar). u.eq) one) ∙ e) in
      (bind_extends names forms bound s p k clear after c more k2 next, bind_settles names forms bound s p k clear after c more k2, bind_falls names forms bound s p k clear after c more k2)

  pub step_marked : (next : ℕ) → next_number forms bound ≤ next → v.eq ≡ true → occurs v.num (under forms (meant forms bound) p.right.0) ≡ false → (w : TyVar) → IsToMark names forms bound p.right.0 w → (t : Ty) → t.0 ≡ length forms → (after : List (Option Ty)) → IsBoundTo bound w.num t after → length bound ≤ length after → IsStep names next forms bound p (forms ++ Var (record { num = next; eq = true }) ∷ []) after (Ok false)
  step_marked next n m o w d t last after b more =
      let marked = ap (λ (u : TyVar). u.eq) one ∙ m in
      let clear = ap (λ (u : TyVar). occurs u.num (under forms (meant forms bound) p.right.0)) one ∙ o in
      let z : TyVar = record { num = next; eq = true } in
      let x = mark_extends forms bound s z n names refl p k marked w d t last after b more in (
        x,
        mark_falls forms bound s z n names refl p k marked w d t last after b more,
        mark_fails forms bound s p k names (forms ++ Var z ∷ []) after (extension_below names next (next_number forms bound) forms bound (p ∷ []) (forms ++ Var z ∷ []) after n x) clear (mark_left forms bound s z n names refl p k marked w d t last after b more) (mark_right forms bound s z n names refl p k marked w d t last after b more clear),
      )
