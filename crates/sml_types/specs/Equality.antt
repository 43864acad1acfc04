-- Which datatypes of a declaration admit equality.
use Rattle.std.specs.Prelude.{◌≡◌, ℕ, suc, Bool, true, cond, Some, List, [], ◌∷◌, slice_get}
use Rattle.std.specs.List.{AllByRecursion}
use Rattle.sml_types.specs.declared.types.Ty.{Ty}
use Rattle.sml_types.specs.declared.types.TyVar.{TyVar}
use Rattle.sml_types.specs.declared.types.TyForm.{TyForm}
use Rattle.sml_types.specs.declared.tables.Equality.TheVariants.{Never, Parts}
use Rattle.sml_types.specs.declared.tables.ConRow.{ConRow}
use Rattle.sml_types.specs.declared.tables.TypeName.{TypeName}
use Rattle.sml_types.specs.Tree.{Tree, Variable, inst, admits}
use Rattle.sml_types.specs.Forms.{tree}
use Rattle.sml_types.specs.Poly.{is_in}

-- the tables, where the type names of a group admit equality by a choice: those that are chosen where their arguments do, the others never
abbrev pub choose : List ℕ → (ℕ → Bool) → ℕ → List TypeName → List TypeName
choose group choice k [] = []
choose group choice k (n ∷ names) = cond (is_in group k) (record { text = n.text; params = n.params; eq = cond (choice k) Parts Never; cons = n.cons }) n ∷ choose group choice (suc k) names

-- a parameter, taken to admit equality
abbrev pub admitting : TyVar → Tree
admitting v = Variable (record { num = v.num; eq = true })

-- where the parameters of the type name of a number admit equality, the arguments of its constructors do
abbrev pub ArgumentsAdmit : List TyForm → List TypeName → ℕ → Type 0
ArgumentsAdmit forms names n = (row : TypeName) (k : ℕ) (c : ConRow) (a : Ty) → slice_get names n ≡ Some row → slice_get row.cons k ≡ Some c → c.arg ≡ Some a → admits names (inst admitting (tree forms a.0)) ≡ true

-- the choice is allowed: the arguments of the constructors of what is chosen then admit equality
abbrev pub IsAllowed : List TyForm → List TypeName → List ℕ → (ℕ → Bool) → Type 0
IsAllowed forms names group choice = AllByRecursion (λ n. choice n ≡ true → ArgumentsAdmit forms (choose group choice 0 names) n) group

-- the type names of a group admit equality by the greatest choice that is allowed
pub record IsGreatest (forms : List TyForm) (names : List TypeName) (group : List ℕ) : Type 0 where
  pub choice : ℕ → Bool
  pub chosen : choose group choice 0 names ≡ names
  pub allowed : IsAllowed forms names group choice
  pub greatest : (other : ℕ → Bool) → IsAllowed forms names group other → AllByRecursion (λ n. other n ≡ true → choice n ≡ true) group
