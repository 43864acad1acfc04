-- What one binding does, and many.
use Rattle.std.specs.Prelude.{◌≡◌, ℕ, ◌<◌, ◌≤◌, Bool, true, false, Option, Some, None, List, length, slice_get, nat_eq}
use Rattle.std.specs.List.{list_any}
use Rattle.sml_types.specs.declared.types.Ty.{Ty}
use Rattle.sml_types.specs.declared.types.TyForm.{TyForm}
use Rattle.sml_types.specs.declared.types.TyForm.TheVariants.{Var}
use Rattle.sml_types.specs.declared.types.TyVar.{TyVar}
use Rattle.sml_types.specs.declared.tables.TypeName.{TypeName}
use Rattle.sml_types.specs.Forms.{tree}
use Rattle.sml_unify.specs.declared.pair.Pair.{Pair}
use Rattle.sml_unify.specs.Solved.{Substitution, Solves, Respects, IsSolved, AreEqual, Agrees, next_number, meant}

-- forms that go on others
pub record IsLonger (forms after : List TyForm) : Type 0 where
  pub count : length forms ≤ length after
  pub keeps : (i : ℕ) (f : TyForm) → slice_get forms i ≡ Some f → slice_get after i ≡ Some f
  pub trees : (i : ℕ) → i < length forms → tree after i ≡ tree forms i

-- all variables have numbers below this one
abbrev pub AreBelow : List TyForm → ℕ → Type 0
AreBelow forms next = (i : ℕ) (v : TyVar) → slice_get forms i ≡ Some (Var v) → v.num < next

-- a new variable, with a mark and a number from the counter on
pub record IsFreshFrom (next : ℕ) (f : TyForm) : Type 0 where
  pub var : TyVar
  pub is : f ≡ Var var
  pub marked : var.eq ≡ true
  pub beyond : next ≤ var.num

-- all forms behind the old ones are new variables
abbrev pub AreFreshFrom : ℕ → List TyForm → List TyForm → Type 0
AreFreshFrom next forms after = (i : ℕ) (f : TyForm) → length forms ≤ i → slice_get after i ≡ Some f → IsFreshFrom next f

-- their numbers are above all that stand in the old ones
abbrev pub AreFresh : List TyForm → List (Option Ty) → List TyForm → Type 0
AreFresh forms bound after = AreFreshFrom (next_number forms bound) forms after

-- a solution that keeps the marks goes over into one of the later bindings that agrees with it below the counter, and each of those is one of the former
pub record IsExtensionFrom (names : List TypeName) (next : ℕ) (forms : List TyForm) (bound : List (Option Ty)) (pairs : List Pair) (forms2 : List TyForm) (bound2 : List (Option Ty)) : Type 0 where
  pub solved : IsSolved forms2 bound2
  pub longer : IsLonger forms forms2
  pub number : next_number forms bound ≤ next_number forms2 bound2
  pub marks : Respects names forms (meant forms bound) → Respects names forms2 (meant forms2 bound2)
  pub sound : (f : Substitution) → Solves forms2 bound2 f → Solves forms bound f
  pub general : (f : Substitution) → Respects names forms f → Solves forms bound f → AreEqual forms f pairs → (g : Substitution) × Agrees next f g × Respects names forms2 g × Solves forms2 bound2 g

-- the counter is at the first number above all
abbrev pub IsExtension : List TypeName → List TyForm → List (Option Ty) → List Pair → List TyForm → List (Option Ty) → Type 0
IsExtension names forms bound pairs forms2 bound2 = IsExtensionFrom names (next_number forms bound) forms bound pairs forms2 bound2

-- no solution that keeps the marks makes the pairs equal
abbrev pub IsRefuted : List TypeName → List TyForm → List (Option Ty) → List Pair → Type 0
IsRefuted names forms bound pairs = (f : Substitution) → Respects names forms f → Solves forms bound f → AreEqual forms f pairs → ⊥

abbrev pub logged : List ℕ → ℕ → Bool
logged log x = list_any (nat_eq x) log

-- unbinding what the log names gives the old bindings
pub record IsLogged (old : List (Option Ty)) (bound : List (Option Ty)) (log : List ℕ) : Type 0 where
  pub longer : length old ≤ length bound
  pub bound_since : (i : ℕ) → i < length old → logged log i ≡ true → slice_get old i ≡ Some None
  pub kept : (i : ℕ) → i < length old → logged log i ≡ false → slice_get bound i ≡ slice_get old i

-- a number is unbound again
pub record IsUnbound (bound : List (Option Ty)) (n : ℕ) (after : List (Option Ty)) : Type 0 where
  pub same : length after ≡ length bound
  pub here : n < length bound → slice_get after n ≡ Some None
  pub others : (i : ℕ) → (i ≡ n → ⊥) → slice_get after i ≡ slice_get bound i
