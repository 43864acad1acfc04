-- Types under what is bound, written as forms of their own, with other variables in the place of some.
use Rattle.std.specs.Prelude.{◌≡◌, ℕ, ◌≤◌, ◌⊎◌, nat_eq, Option, Some, None, List, [], ◌∷◌, slice_get}
use Rattle.std.specs.List.{AllByRecursion, find}
use Rattle.sml_types.specs.declared.types.TyVar.{TyVar}
use Rattle.sml_types.specs.declared.types.TyForm.{TyForm}
use Rattle.sml_types.specs.declared.types.TyForm.TheVariants.{Var}
use Rattle.sml_types.specs.Tree.{Tree, Variable}
use Rattle.sml_types.specs.Forms.{parts_of}
use Rattle.sml_unify.specs.declared.resolve.Rename.{Rename}

abbrev pub led_to : Option Rename → Option TyVar
led_to None = None
led_to (Some r) = Some r.to

abbrev pub renamed_as : TyVar → Option TyVar → TyVar
renamed_as v None = v
renamed_as v (Some w) = w

-- what stands for a variable: what the first rename of its number leads to, else itself
abbrev pub renamed : List Rename → TyVar → Tree
renamed renames v = Variable (renamed_as v (led_to (find (λ r. nat_eq r.from v.num) renames)))

-- what the renames lead to and what stands there: one number has one variable
pub record AreRenames (forms : List TyForm) (renames : List Rename) : Type 0 where
  pub named : AllByRecursion (λ r. (i : ℕ) (v : TyVar) → slice_get forms i ≡ Some (Var v) → v.num ≡ r.to.num → v ≡ r.to) renames
  pub agree : AllByRecursion (λ r. AllByRecursion (λ q. q.to.num ≡ r.to.num → q.to ≡ r.to) renames) renames

-- the forms of these numbers have no part before the first
abbrev pub IsSegment : List TyForm → ℕ → ℕ → Type 0
IsSegment forms first last = (i : ℕ) (form : TyForm) → first ≤ i → i ≤ last → slice_get forms i ≡ Some form → AllByRecursion (λ c. first ≤ c) (parts_of form)

abbrev pub IsRenamedTo : TyVar → List Rename → Type 0
IsRenamedTo v [] = ⊥
IsRenamedTo v (r ∷ renames) = (v ≡ r.to) ⊎ IsRenamedTo v renames

-- each variable is one of the old forms or one that a rename leads to
abbrev pub AreVarsOf : List TyForm → List Rename → List TyForm → Type 0
AreVarsOf old renames forms = (i : ℕ) (v : TyVar) → slice_get forms i ≡ Some (Var v) → ((j : ℕ) × (slice_get old j ≡ Some (Var v))) ⊎ IsRenamedTo v renames
