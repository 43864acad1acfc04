-- The type that a number means.
use Rattle.std.specs.Prelude.{◌≡◌, ℕ, ◌<◌, Option, Some, None, List, [], ◌∷◌, ◌++◌, length, map, fold, slice_get, get_or}
use Rattle.std.specs.List.{AllByRecursion}
use Rattle.sml_types.specs.declared.types.TyVar.{TyVar}
use Rattle.sml_types.specs.declared.tables.TypeName.{TypeName}
use Rattle.sml_types.specs.declared.types.TyForm.{TyForm}
use Rattle.sml_types.specs.declared.types.TyForm.TheVariants.{Var, Fields, Arrow, Named}
use Rattle.sml_types.specs.Tree.{Head, ArrowHead, FieldsHead, NameHead, Tree, Variable, App, NoParts, Part}

-- the numbers of a form's parts, in order
abbrev pub parts_of : TyForm → List ℕ
parts_of (Var v) = []
parts_of (Fields fields) = map (λ f. f.ty.0) fields
parts_of (Arrow a b) = a.0 ∷ b.0 ∷ []
parts_of (Named n args) = map (λ a. a.0) args

abbrev pub var_of : TyForm → Option TyVar
var_of (Var v) = Some v
var_of _ = None

-- the head of a form that is no variable
abbrev pub head_of : TyForm → Head
head_of (Fields fields) = FieldsHead (map (λ f. f.lab) fields)
head_of (Named n args) = NameHead n
head_of _ = ArrowHead

-- the parts with these numbers
abbrev pub listed : (ℕ → Tree) → List ℕ → Tree
listed part [] = NoParts
listed part (i ∷ is) = Part (part i) (listed part is)

-- the type of a form, from those of its parts
abbrev pub form_tree : (ℕ → Tree) → TyForm → Tree
form_tree part (Var v) = Variable v
form_tree part (Fields fields) = App (FieldsHead (map (λ f. f.lab) fields)) (listed part (map (λ f. f.ty.0) fields))
form_tree part (Arrow a b) = App ArrowHead (listed part (a.0 ∷ b.0 ∷ []))
form_tree part (Named n args) = App (NameHead n) (listed part (map (λ a. a.0) args))

abbrev pub tree_at : List Tree → ℕ → Tree
tree_at done i = get_or done i NoParts

-- the types of all numbers, from the first on
unfoldable pub trees : List TyForm → List Tree
trees forms = fold (λ done f. done ++ form_tree (tree_at done) f ∷ []) [] forms

-- the type of a number
unfoldable pub tree : List TyForm → ℕ → Tree
tree forms i = tree_at (trees forms) i

-- the parts of each form have smaller numbers
abbrev pub IsNumbered : List TyForm → Type 0
IsNumbered forms = (i : ℕ) (f : TyForm) → slice_get forms i ≡ Some f → AllByRecursion (λ c. c < i) (parts_of f)

-- one number has one variable
abbrev pub IsNamedOnce : List TyForm → Type 0
IsNamedOnce forms = (i j : ℕ) (v w : TyVar) → slice_get forms i ≡ Some (Var v) → slice_get forms j ≡ Some (Var w) → v.num ≡ w.num → v ≡ w

-- what holds of all forms
pub record AreForms (forms : List TyForm) : Type 0 where
  pub numbered : IsNumbered forms
  pub named : IsNamedOnce forms

-- a variable is named as those before it
abbrev pub IsNamedAs : List TyForm → TyForm → Type 0
IsNamedAs forms form = (i : ℕ) (v w : TyVar) → slice_get forms i ≡ Some (Var v) → form ≡ Var w → v.num ≡ w.num → v ≡ w

-- a form stands in the tables with as many arguments as its type name has parameters
abbrev pub IsApplied : List TypeName → TyForm → Type 0
IsApplied names (Named n args) = (name : TypeName) × (slice_get names n ≡ Some name) × (length args ≡ length name.params)
IsApplied names _ = Unit {0}

abbrev pub AreApplied : List TypeName → List TyForm → Type 0
AreApplied names forms = (i : ℕ) (f : TyForm) → slice_get forms i ≡ Some f → IsApplied names f
