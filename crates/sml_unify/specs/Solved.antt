-- What a substitution kept as a list of bindings means.
use Rattle.std.specs.Prelude.{◌≡◌, ℕ, zero, suc, ◌+◌, ◌<◌, Bool, true, false, Option, Some, None, max, List, [], ◌∷◌, ◌++◌, length, slice_get}
use Rattle.std.specs.List.{AllByRecursion}
use Rattle.sml_types.specs.declared.types.Ty.{Ty}
use Rattle.sml_types.specs.declared.types.TyVar.{TyVar}
use Rattle.sml_types.specs.declared.types.TyForm.{TyForm}
use Rattle.sml_types.specs.declared.types.TyForm.TheVariants.{Var}
use Rattle.sml_types.specs.declared.tables.TypeName.{TypeName}
use Rattle.sml_types.specs.Tree.{Tree, Variable, inst, occurs, admits}
use Rattle.sml_types.specs.Forms.{tree, IsNumbered, IsNamedOnce}
use Rattle.sml_unify.specs.declared.pair.Pair.{Pair}

abbrev pub joined : Option (Option Ty) → Option Ty
joined None = None
joined (Some t) = t

-- the type that a number is bound to; a number past the end is bound to none
abbrev pub bound_at : List (Option Ty) → ℕ → Option Ty
bound_at bound x = joined (slice_get bound x)

abbrev pub Substitution : Type 0
Substitution = TyVar → Tree

-- each variable that is bound stands for the type that it is bound to
abbrev pub Solves : List TyForm → List (Option Ty) → Substitution → Type 0
Solves forms bound f = (i : ℕ) (v : TyVar) (t : Ty) → slice_get forms i ≡ Some (Var v) → bound_at bound v.num ≡ Some t → f v ≡ inst f (tree forms t.0)

-- no variable is bound to itself through others
abbrev pub IsAcyclic : List TyForm → List (Option Ty) → Type 0
IsAcyclic forms bound = (rank : ℕ → ℕ) × ((x y : ℕ) (t : Ty) → bound_at bound x ≡ Some t → occurs y (tree forms t.0) ≡ true → rank y < rank x)

-- all bindings are types that stand there
abbrev pub IsWithin : List TyForm → List (Option Ty) → Type 0
IsWithin forms bound = (x : ℕ) (t : Ty) → bound_at bound x ≡ Some t → t.0 < length forms

-- what holds of the bindings of a substitution
pub record AreBindings (forms : List TyForm) (bound : List (Option Ty)) : Type 0 where
  pub within : IsWithin forms bound
  pub acyclic : IsAcyclic forms bound

-- what always holds of types and bindings
pub record IsSolved (forms : List TyForm) (bound : List (Option Ty)) : Type 0 where
  pub numbered : IsNumbered forms
  pub named : IsNamedOnce forms
  pub within : IsWithin forms bound
  pub acyclic : IsAcyclic forms bound

-- a variable after as many rounds of putting bound types in place of variables
abbrev pub put : Substitution → (ℕ → Tree) → Option Ty → TyVar → Tree
put f types None v = Variable v
put f types (Some t) v = inst f (types t.0)

unfoldable pub rounds : List TyForm → List (Option Ty) → ℕ → Substitution
rounds forms bound zero v = Variable v
rounds forms bound (suc k) v = put (rounds forms bound k) (tree forms) (bound_at bound v.num) v

-- the substitution that the bindings mean
unfoldable pub meant : List TyForm → List (Option Ty) → Substitution
meant forms bound = rounds forms bound (length bound)

-- marked variables stand for types that admit equality
abbrev pub Respects : List TypeName → List TyForm → Substitution → Type 0
Respects names forms f = (i : ℕ) (v : TyVar) → slice_get forms i ≡ Some (Var v) → v.eq ≡ true → admits names (f v) ≡ true

-- above all numbers of variables
abbrev pub above : List TyForm → ℕ
above [] = 0
above (Var v ∷ forms) = max (suc v.num) (above forms)
above (f ∷ forms) = above forms

-- the number of a new variable
abbrev pub next_number : List TyForm → List (Option Ty) → ℕ
next_number forms bound = max (length bound) (above forms)

-- both substitutions agree below a number
abbrev pub Agrees : ℕ → Substitution → Substitution → Type 0
Agrees n f g = (v : TyVar) → v.num < n → g v ≡ f v

-- how much there is left to bind: unmarked variables count twice
abbrev pub var_weight : Option Ty → Bool → ℕ
var_weight (Some t) eq = 0
var_weight None true = 1
var_weight None false = 2

abbrev pub weight : List TyForm → List (Option Ty) → ℕ
weight [] bound = 0
weight (Var v ∷ forms) bound = var_weight (bound_at bound v.num) v.eq + weight forms bound
weight (f ∷ forms) bound = weight forms bound

-- one more number is bound
pub record IsBoundTo (bound : List (Option Ty)) (x : ℕ) (t : Ty) (after : List (Option Ty)) : Type 0 where
  pub here : bound_at after x ≡ Some t
  pub others : (y : ℕ) → (y ≡ x → ⊥) → bound_at after y ≡ bound_at bound y

-- a type under a substitution
abbrev pub under : List TyForm → Substitution → ℕ → Tree
under forms f i = inst f (tree forms i)

abbrev pub IsEqualPair : List TyForm → Substitution → Pair → Type 0
IsEqualPair forms f p = under forms f p.left.0 ≡ under forms f p.right.0

-- all pairs are equal
abbrev pub AreEqual : List TyForm → Substitution → List Pair → Type 0
AreEqual forms f pairs = AllByRecursion (IsEqualPair forms f) pairs

abbrev pub IsPair : List TyForm → Pair → Type 0
IsPair forms p = (p.left.0 < length forms) × (p.right.0 < length forms)

-- all pairs stand there
abbrev pub ArePairs : List TyForm → List Pair → Type 0
ArePairs forms pairs = AllByRecursion (IsPair forms) pairs

-- a number is no variable that is bound
abbrev pub IsFree : List TyForm → List (Option Ty) → ℕ → Type 0
IsFree forms bound i = (v : TyVar) → slice_get forms i ≡ Some (Var v) → bound_at bound v.num ≡ None

-- a number has the same type as another under each solution
abbrev pub IsSameType : List TyForm → List (Option Ty) → ℕ → ℕ → Type 0
IsSameType forms bound i j = (f : Substitution) → Solves forms bound f → under forms f i ≡ under forms f j

-- the pairs of two lists, the last first
abbrev pub last_first : List ℕ → List ℕ → List Pair
last_first [] ys = []
last_first (x ∷ xs) [] = []
last_first (x ∷ xs) (y ∷ ys) = last_first xs ys ++ record { left = record { 0 = x }; right = record { 0 = y } } ∷ []
