-- What a node asks, as types that are added and pairs of types to be made equal.
use Rattle.std.specs.Prelude.{◌≡◌, ℕ, ◌<◌, ◌≤◌, Some, Result, Ok, Err, List, [], ◌∷◌, length, slice_get}
use Rattle.sml_types.specs.declared.types.Ty.{Ty}
use Rattle.sml_types.specs.declared.types.TyVar.{TyVar}
use Rattle.sml_types.specs.declared.types.TyForm.{TyForm}
use Rattle.sml_types.specs.declared.types.TyForm.TheVariants.{Var}
use Rattle.sml_types.specs.declared.tables.TypeName.{TypeName}
use Rattle.sml_types.specs.Tree.{Tree, Variable}
use Rattle.sml_types.specs.Forms.{tree}
use Rattle.sml_unify.specs.declared.pair.Pair.{Pair}
use Rattle.sml_unify.specs.Solved.{Substitution, Respects, Agrees, AreEqual, ArePairs, under}
use Rattle.sml_unify.specs.Steps.{IsLonger, AreBelow}
use Rattle.infer_state.specs.declared.failure.Failure.{Failure}
use Rattle.infer_state.specs.declared.failure.Failure.TheVariants.{Untypable, NoMemory}

abbrev pub pair : Ty → Ty → Pair
pair a b = record { left = a; right = b }

-- a number is the form of a variable
pub record StandsFor (forms : List TyForm) (t : Ty) (v : TyVar) : Type 0 where
  pub there : t.0 < length forms
  pub here : slice_get forms t.0 ≡ Some (Var v)
  pub is : tree forms t.0 ≡ Variable v

-- forms were added, and variables with numbers from a counter on
pub record AreAdded (next : ℕ) (forms : List TyForm) (next2 : ℕ) (forms2 : List TyForm) : Type 0 where
  pub longer : IsLonger forms forms2
  pub raised : next ≤ next2
  pub below : AreBelow forms2 next2
  pub known : (i : ℕ) (v : TyVar) → slice_get forms2 i ≡ Some (Var v) → v.num < next → (j : ℕ) × (slice_get forms j ≡ Some (Var v))

-- a type was made that is one of these under each substitution, and can be each of them
pub record IsMade (names : List TypeName) (P : Substitution → Tree → Type 0) (next : ℕ) (forms : List TyForm) (next2 : ℕ) (forms2 : List TyForm) (t : Ty) : Type 0 where
  pub added : AreAdded next forms next2 forms2
  pub there : t.0 < length forms2
  pub gets : (f : Substitution) → Respects names forms2 f → P f (under forms2 f t.0)
  pub general : (f : Substitution) → Respects names forms f → (u : Tree) → P f u → (g : Substitution) × Agrees next f g × Respects names forms2 g × (under forms2 g t.0 ≡ u)

-- what is asked is that these pairs are equal
pub record Says (forms : List TyForm) (ask : Substitution → Type 0) (pairs : List Pair) : Type 0 where
  pub there : ArePairs forms pairs
  pub into : (f : Substitution) → ask f → AreEqual forms f pairs
  pub out : (f : Substitution) → AreEqual forms f pairs → ask f

-- the same, with types for new variables
pub record IsPosed (names : List TypeName) (ask : Substitution → Type 0) (next : ℕ) (forms : List TyForm) (next2 : ℕ) (forms2 : List TyForm) (pairs : List Pair) : Type 0 where
  pub added : AreAdded next forms next2 forms2
  pub there : ArePairs forms2 pairs
  pub gets : (f : Substitution) → Respects names forms2 f → AreEqual forms2 f pairs → ask f
  pub general : (f : Substitution) → Respects names forms f → ask f → (g : Substitution) × Agrees next f g × Respects names forms2 g × AreEqual forms2 g pairs

-- a type was made that is one of these under each substitution that makes the pairs equal, and can be each of them
pub record IsMadeWith (names : List TypeName) (P : Substitution → Tree → Type 0) (next : ℕ) (forms : List TyForm) (next2 : ℕ) (forms2 : List TyForm) (pairs : List Pair) (t : Ty) : Type 0 where
  pub added : AreAdded next forms next2 forms2
  pub there : t.0 < length forms2
  pub sides : ArePairs forms2 pairs
  pub gets : (f : Substitution) → Respects names forms2 f → AreEqual forms2 f pairs → P f (under forms2 f t.0)
  pub general : (f : Substitution) → Respects names forms f → (u : Tree) → P f u → (g : Substitution) × Agrees next f g × Respects names forms2 g × AreEqual forms2 g pairs × (under forms2 g t.0 ≡ u)

-- no substitution that keeps the marks has this
abbrev pub IsImpossible : List TypeName → List TyForm → (Substitution → Type 0) → Type 0
IsImpossible names forms ask = (f : Substitution) → Respects names forms f → ask f → ⊥

abbrev pub IsPosing : List TypeName → (Substitution → Type 0) → ℕ → List TyForm → ℕ → List TyForm → Result (List Pair) Failure → Type 0
IsPosing names ask next forms next2 forms2 (Ok pairs) = IsPosed names ask next forms next2 forms2 pairs
IsPosing names ask next forms next2 forms2 (Err Untypable) = IsImpossible names forms ask
IsPosing names ask next forms next2 forms2 (Err NoMemory) = Unit {0}
