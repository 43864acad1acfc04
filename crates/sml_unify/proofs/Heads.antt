-- Chains of variables that are bound to variables end.
use Rattle.std.proofs.Common.{◌≡◌, ℕ, ◌+◌, ◌<◌, ◌≤◌, true, List, length, Option, Some, None, refl, ap, ◌∙◌, subst, arith}
use Rattle.std.specs.Prelude.{slice_get}
use Rattle.std.proofs.lemmas.Bool.{eq-eqb}
use Rattle.sml_types.specs.declared.types.Ty.{Ty}
use Rattle.sml_types.specs.declared.types.TyVar.{TyVar}
use Rattle.sml_types.specs.declared.types.TyForm.{TyForm}
use Rattle.sml_types.specs.declared.types.TyForm.TheVariants.{Var}
use Rattle.sml_types.specs.Tree.{Variable, inst, occurs}
use Rattle.sml_types.specs.Forms.{tree}
use Rattle.sml_types.proofs.FormFacts.{tree_form}
use Rattle.sml_unify.specs.Solved.{bound_at, IsSolved, IsFree, IsSameType}
use Rattle.sml_unify.proofs.Meant.{below, below_less, below_all, bound_within, bound_cases}

-- after k steps of a chain that many variables have had a higher rank
abbrev pub IsLow : List TyForm → List (Option Ty) → ℕ → ℕ → Type 0
IsLow forms bound i k = (r : ℕ → ℕ) × ((x y : ℕ) (t u : Ty) → bound_at bound x ≡ Some t → bound_at bound y ≡ Some u → occurs y (tree forms t.0) ≡ true → r y < r x) × ((v : TyVar) → slice_get forms i ≡ Some (Var v) → (t : Ty) → bound_at bound v.num ≡ Some t → r v.num + k < length bound)

pub low_first : (forms : List TyForm) (bound : List (Option Ty)) (i : ℕ) → IsSolved forms bound → IsLow forms bound i 0
low_first forms bound i s = (
  (λ x. below s.acyclic.0 (length bound) x),
  (λ x y t u e d o. below_less s.acyclic.0 (length bound) x y (bound_within bound y u d) (s.acyclic.1 x y t e o)),
  (λ v q t e. let w = below_all s.acyclic.0 (length bound) v.num (bound_within bound v.num t e) in omega arith),
)

-- the type of a variable
pub tree_var : (forms : List TyForm) (bound : List (Option Ty)) (i : ℕ) (v : TyVar) → IsSolved forms bound → slice_get forms i ≡ Some (Var v) → tree forms i ≡ Variable v
tree_var forms bound i v s q = tree_form forms i (Var v) s.numbered q

pub low_step : (forms : List TyForm) (bound : List (Option Ty)) (i k : ℕ) (v : TyVar) (t : Ty) → IsSolved forms bound → slice_get forms i ≡ Some (Var v) → bound_at bound v.num ≡ Some t → IsLow forms bound i k → IsLow forms bound t.0 (k + 1)
low_step forms bound i k v t s q e low = (
  low.0,
  low.1,
  λ w p u d.
      let o : occurs w.num (tree forms t.0) ≡ true = ap (occurs w.num) (tree_var forms bound t.0 w s p) ∙ eq-eqb w.num w.num refl in
      let falls = low.1 v.num w.num t u e d o in
      let was = low.2 v q t e in
      omega arith,
)

pub low_last : (forms : List TyForm) (bound : List (Option Ty)) (i k : ℕ) → length bound ≤ k → IsLow forms bound i k → IsFree forms bound i
low_last forms bound i k h low v q = bound_cases bound v.num (bound_at bound v.num ≡ None) (λ e. e) (λ t e. let w = low.2 v q t e in absurd (omega arith))

pub same_step : (forms : List TyForm) (bound : List (Option Ty)) (i j : ℕ) (v : TyVar) (t : Ty) → IsSolved forms bound → IsSameType forms bound i j → slice_get forms j ≡ Some (Var v) → bound_at bound v.num ≡ Some t → IsSameType forms bound i t.0
same_step forms bound i j v t s h q e f g =
    h f g ∙ ap (inst f) (tree_var forms bound j v s q) ∙ g j v t q e

-- a variable that is not bound is free
pub free_here : (forms : List TyForm) (bound : List (Option Ty)) (i : ℕ) (v : TyVar) → slice_get forms i ≡ Some (Var v) → bound_at bound v.num ≡ None → IsFree forms bound i
free_here forms bound i v q e w p =
    let same : v ≡ w = cc in subst (λ (u : TyVar). bound_at bound u.num ≡ None) same e

pub free_else : (forms : List TyForm) (bound : List (Option Ty)) (i : ℕ) (f : TyForm) → slice_get forms i ≡ Some f → ((v : TyVar) → f ≡ Var v → ⊥) → IsFree forms bound i
free_else forms bound i f q h v p = let same : f ≡ Var v = cc in absurd (h v same)
