-- What is left to do, and what the heads of a pair are.
use Rattle.std.specs.Prelude.{◌≡◌, ℕ, Option, Some, List, [], ◌∷◌, map, slice_get}
use Rattle.sml_types.specs.declared.types.Ty.{Ty}
use Rattle.sml_types.specs.declared.types.TyVar.{TyVar}
use Rattle.sml_types.specs.declared.types.TyForm.{TyForm}
use Rattle.sml_types.specs.declared.types.TyForm.TheVariants.{Var}
use Rattle.sml_unify.specs.declared.pair.Pair.{Pair}
use Rattle.sml_unify.specs.declared.task.Task.{Task}
use Rattle.sml_unify.specs.declared.task.Task.TheVariants.{Unify, Link}
use Rattle.sml_unify.specs.declared.simplify.Heads.{Heads}
use Rattle.sml_unify.specs.declared.simplify.Heads.TheVariants.{Same, Binds, Forms}
use Rattle.sml_unify.specs.Solved.{Substitution, Solves, IsEqualPair, IsSameType, IsPair, last_first}
use Rattle.sml_unify.specs.Simplified.{IsBinding}

-- the pairs to be made equal
abbrev pub pairs_of : List Task → List Pair
pairs_of [] = []
pairs_of (Unify p ∷ ts) = p ∷ pairs_of ts
pairs_of (Link p ∷ ts) = pairs_of ts

abbrev pub parts_tasks : List ℕ → List ℕ → List Task
parts_tasks xs ys = map Unify (last_first xs ys)

-- the pair q has the types of p, in its order or the other way round
pub data IsFacing (forms : List TyForm) (bound : List (Option Ty)) (p q : Pair) : Type 0 where
  straight : IsSameType forms bound p.left.0 q.left.0 → IsSameType forms bound p.right.0 q.right.0 → IsFacing forms bound p q
  across : IsSameType forms bound p.right.0 q.left.0 → IsSameType forms bound p.left.0 q.right.0 → IsFacing forms bound p q

-- two forms that are no variables, with the types of p
pub record AreApps (forms : List TyForm) (bound : List (Option Ty)) (p q : Pair) : Type 0 where
  pub within : IsPair forms q
  pub left : (v : TyVar) → slice_get forms q.left.0 ≡ Some (Var v) → ⊥
  pub right : (v : TyVar) → slice_get forms q.right.0 ≡ Some (Var v) → ⊥
  pub left_same : IsSameType forms bound p.left.0 q.left.0
  pub right_same : IsSameType forms bound p.right.0 q.right.0

-- what the heads of a pair are: one variable, a variable to be bound, or two forms
abbrev pub AreHeads : List TyForm → List (Option Ty) → Pair → Heads → Type 0
AreHeads forms bound p Same = (f : Substitution) → Solves forms bound f → IsEqualPair forms f p
AreHeads forms bound p (Binds q) = IsBinding forms bound q × IsFacing forms bound p q
AreHeads forms bound p (Forms q) = AreApps forms bound p q
