-- One more binding keeps that marked variables stand for types that admit equality.
use Rattle.std.proofs.Common.{◌≡◌, ℕ, zero, suc, ◌<◌, Bool, true, false, List, length, Option, Some, None, refl, sym, ap, ◌∙◌, subst, arith}
use Rattle.std.specs.Prelude.{slice_get, nat_eq, ◌&&◌}
use Rattle.std.proofs.lemmas.Bool.{eqb-true, eq-eqb}
use Rattle.sml_types.specs.declared.types.Ty.{Ty}
use Rattle.sml_types.specs.declared.types.TyVar.{TyVar}
use Rattle.sml_types.specs.declared.types.TyForm.{TyForm}
use Rattle.sml_types.specs.declared.types.TyForm.TheVariants.{Var}
use Rattle.sml_types.specs.declared.tables.TypeName.{TypeName}
use Rattle.sml_types.specs.Tree.{Tree, Variable, App, NoParts, Part, inst, occurs, admits, head_equality, AllVars}
use Rattle.sml_types.specs.Forms.{tree}
use Rattle.sml_types.proofs.TreeFacts.{and_both, by_mono, or_left, or_right, or_none}
use Rattle.sml_unify.specs.Solved.{bound_at, Substitution, Solves, Respects, IsSolved, IsBoundTo, rounds, meant, under}
use Rattle.sml_unify.proofs.Meant.{below, below_less, below_all, bound_within, bound_cases, rounds_zero, rounds_free, rounds_bound, meant_solves, meant_free}
use Rattle.sml_unify.proofs.Bindings.{bound_before}
use Rattle.sml_unify.proofs.Known.{IsKnown, vars_inst, meant_known, meant_through, under_through}

vars_of : (P : TyVar → Type 0) (t : Tree) → ((v : TyVar) → occurs v.num t ≡ true → P v) → AllVars P t
vars_of P (Variable v) h = h v (eq-eqb v.num v.num refl)
vars_of P (App c ts) h = vars_of P ts h
vars_of P NoParts h = tt
vars_of P (Part t ts) h =
    (vars_of P t (λ v e. h v (or_left (occurs v.num t) (occurs v.num ts) e)), vars_of P ts (λ v e. h v (or_right (occurs v.num t) (occurs v.num ts) e)))

pub vars_both : (P Q R : TyVar → Type 0) (t : Tree) → ((v : TyVar) → P v → Q v → R v) → AllVars P t → AllVars Q t → AllVars R t
vars_both P Q R (Variable v) f h g = f v h g
vars_both P Q R (App c ts) f h g = vars_both P Q R ts f h g
vars_both P Q R NoParts f h g = tt
vars_both P Q R (Part t ts) f h g = (vars_both P Q R t f h.0 g.0, vars_both P Q R ts f h.1 g.1)

pub vars_clear : (x : ℕ) (t : Tree) → occurs x t ≡ false → AllVars (λ w. w.num ≡ x → ⊥) t
vars_clear x (Variable w) e = λ n. let k = eq-eqb x w.num (sym n) in cc
vars_clear x (App c ts) e = vars_clear x ts e
vars_clear x NoParts e = tt
vars_clear x (Part t ts) e = let b = or_none (occurs x t) (occurs x ts) e in (vars_clear x t b.0, vars_clear x ts b.1)

admits_vars : (names : List TypeName) (f : Substitution) (t : Tree) → AllVars (λ v. v.eq ≡ true → admits names (f v) ≡ true) t → admits names t ≡ true → admits names (inst f t) ≡ true
admits_vars names f (Variable v) h e = h e
admits_vars names f (App c ts) h e = by_mono (head_equality names c) (admits names ts) (admits names (inst f ts)) (admits_vars names f ts h) e
admits_vars names f NoParts h e = refl
admits_vars names f (Part t ts) h e =
    let b = and_both (admits names t) (admits names ts) e in
    let l = admits_vars names f t h.0 b.0 in
    let r = admits_vars names f ts h.1 b.1 in
    ap (λ w. w && admits names (inst f ts)) l ∙ r

abbrev pub IsOpen : List (Option Ty) → TyVar → Type 0
IsOpen bound v = bound_at bound v.num ≡ None

module _ (forms : List TyForm) (bound : List (Option Ty)) (s : IsSolved forms bound) where
  rounds_open : (k : ℕ) (v : TyVar) → ((t : Ty) → bound_at bound v.num ≡ Some t → below s.acyclic.0 (length bound) v.num < k) → AllVars (IsOpen bound) (rounds forms bound k v)
  rounds_open zero v h =
      bound_cases bound v.num (AllVars (IsOpen bound) (rounds forms bound 0 v)) (λ e. subst (λ (t : Tree). AllVars (IsOpen bound) t) (sym (rounds_zero forms bound v)) e) (λ t e. let w = h t e in absurd (omega arith))
  rounds_open (suc k) v h = go (rounds_open k)
    where
      go : ((w : TyVar) → ((t : Ty) → bound_at bound w.num ≡ Some t → below s.acyclic.0 (length bound) w.num < k) → AllVars (IsOpen bound) (rounds forms bound k w)) → AllVars (IsOpen bound) (rounds forms bound (suc k) v)
      go ih =
          bound_cases
          bound
          v.num
          (AllVars (IsOpen bound) (rounds forms bound (suc k) v))
          (λ e. subst (λ (t : Tree). AllVars (IsOpen bound) t) (sym (rounds_free forms bound (suc k) v e)) e)
          (λ t e.
          let w = h t e in
          subst
          (λ (u : Tree). AllVars (IsOpen bound) u)
          (sym (rounds_bound forms bound k v t e))
          (vars_inst
          (λ y. (u : Ty) → bound_at bound y.num ≡ Some u → below s.acyclic.0 (length bound) y.num < k)
          (IsOpen bound)
          (rounds forms bound k)
          (tree forms t.0)
          ih
          (vars_of (λ y. (u : Ty) → bound_at bound y.num ≡ Some u → below s.acyclic.0 (length bound) y.num < k) (tree forms t.0) (λ y o u q. let z = below_less s.acyclic.0 (length bound) v.num y.num (bound_within bound y.num u q) (s.acyclic.1 v.num y.num t e o) in omega arith))))

  meant_open : (v : TyVar) → AllVars (IsOpen bound) (meant forms bound v)
  unfolding meant
  meant_open v = rounds_open (length bound) v (λ t q. below_all s.acyclic.0 (length bound) v.num (bound_within bound v.num t q))

  pub under_open : (i : ℕ) → AllVars (IsOpen bound) (under forms (meant forms bound) i)
  under_open i =
      vars_inst (λ v. Unit {0}) (IsOpen bound) (meant forms bound) (tree forms i) (λ v u. meant_open v) (vars_of (λ v. Unit {0}) (tree forms i) (λ v e. tt))

  module _ (names : List TypeName) (j : ℕ) (var : TyVar) (here : slice_get forms j ≡ Some (Var var)) (t : Ty) (after : List (Option Ty)) (b : IsBoundTo bound var.num t after) (u : bound_at bound var.num ≡ None) (clear : occurs var.num (under forms (meant forms bound) t.0) ≡ false) (there : t.0 < length forms) (s2 : IsSolved forms after) (marked : var.eq ≡ true → admits names (under forms (meant forms bound) t.0) ≡ true) where
    abbrev m2 : Substitution
    m2 = meant forms after

    h2 : Solves forms after (meant forms after)
    h2 = meant_solves forms after s2.acyclic

    h1 : Solves forms bound (meant forms after)
    h1 = bound_before forms bound s var.num t after b u clear there (meant forms after) h2

    -- another variable that was open stays so
    other_admits : (w : TyVar) → (w.num ≡ var.num → ⊥) → IsOpen bound w → w.eq ≡ true → admits names (meant forms after w) ≡ true
    other_admits w n o e = ap (admits names) (meant_free forms after w (b.others w.num n ∙ o)) ∙ e

    var_admits : var.eq ≡ true → admits names (meant forms after var) ≡ true
    var_admits e =
        ap (admits names) (h2 j var t here b.here ∙ under_through forms bound s (meant forms after) h1 t.0 there)
        ∙ admits_vars
        names
        (meant forms after)
        (under forms (meant forms bound) t.0)
        (vars_both (λ w. w.num ≡ var.num → ⊥) (IsOpen bound) (λ w. w.eq ≡ true → admits names (meant forms after w) ≡ true) (under forms (meant forms bound) t.0) (λ w n o. other_admits w n o) (vars_clear var.num (under forms (meant forms bound) t.0) clear) (under_open t.0))
        (marked e)

    each_admits : (w : TyVar) → IsKnown forms w → IsOpen bound w → w.eq ≡ true → admits names (meant forms after w) ≡ true
    each_admits w k o e = go (nat_eq w.num var.num) refl
      where
        go : (c : Bool) → nat_eq w.num var.num ≡ c → admits names (meant forms after w) ≡ true
        go true q =
            let one : w ≡ var = s.named k.0 j w var k.1 here (eqb-true w.num var.num q) in
            ap (λ x. admits names (meant forms after x)) one ∙ var_admits (sym (ap (λ (x : TyVar). x.eq) one) ∙ e)
        go false q = other_admits w (λ n. let z = eq-eqb w.num var.num n in cc) o e

    pub bind_marks : Respects names forms (meant forms bound) → Respects names forms (meant forms after)
    bind_marks r i v q e =
        ap (admits names) (meant_through forms bound s (meant forms after) h1 v (i, q))
        ∙ admits_vars
        names
        (meant forms after)
        (meant forms bound v)
        (vars_both (IsKnown forms) (IsOpen bound) (λ w. w.eq ≡ true → admits names (meant forms after w) ≡ true) (meant forms bound v) each_admits (meant_known forms bound s v (i, q)) (meant_open v))
        (r i v q e)
