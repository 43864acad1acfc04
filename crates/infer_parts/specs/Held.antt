-- What holds of a type, from what holds of its variables and its heads.
use Rattle.std.specs.Prelude.{◌≡◌, ℕ, ◌+◌, ◌-◌, ◌<◌, ◌≤◌, Bool, true, false, ◌&&◌, not, cond, nat_eq, List, length, slice_get, get_or}
use Rattle.std.specs.List.{list_any, list_all}
use Rattle.sml_types.specs.declared.types.Ty.{Ty}
use Rattle.sml_types.specs.declared.types.TyVar.{TyVar}
use Rattle.sml_types.specs.declared.types.TyForm.{TyForm}
use Rattle.sml_types.specs.declared.types.TyForm.TheVariants.{Var, Fields, Arrow, Named}
use Rattle.sml_types.specs.declared.tables.TypeName.{TypeName}
use Rattle.sml_types.specs.declared.tables.Equality.{Equality}
use Rattle.sml_types.specs.Tree.{Head, Tree, Variable, App, NoParts, Part, head_equality, by_equality, name_equality}
use Rattle.sml_types.specs.Forms.{tree}

abbrev pub Leaf : Type 0
Leaf = TyVar → Bool

abbrev pub By : Type 0
By = Head → Bool → Bool

abbrev pub holds : Leaf → By → Tree → Bool
holds leaf by (Variable v) = leaf v
holds leaf by (App h ts) = by h (holds leaf by ts)
holds leaf by NoParts = true
holds leaf by (Part t ts) = holds leaf by t && holds leaf by ts

-- what a table has for a number; it begins with that of the first number
abbrev pub held_at : ℕ → List Bool → ℕ → Bool
held_at first table c = get_or table (c - first) false

abbrev pub all_held : ℕ → List Bool → List Ty → Bool
all_held first table tys = list_all (λ t. held_at first table t.0) tys

-- the table has what holds of the types from one number up to another
pub record AreHeld (leaf : Leaf) (by : By) (forms : List TyForm) (first i : ℕ) (table : List Bool) : Type 0 where
  pub count : first + length table ≡ i
  pub each : (k : ℕ) → first ≤ k → k < i → held_at first table k ≡ holds leaf by (tree forms k)

-- ---- Variables

abbrev pub is_var : TyVar → TyVar → Bool
is_var v w = nat_eq v.num w.num && cond v.eq w.eq (not w.eq)

abbrev pub among : List TyVar → TyVar → Bool
among vs v = list_any (λ w. is_var v w) vs

abbrev pub in_any : Head → Bool → Bool
in_any h b = b

-- ---- Equality

abbrev pub any_var : TyVar → Bool
any_var v = true

abbrev pub by_names : List TypeName → Head → Bool → Bool
by_names names h b = by_equality (head_equality names h) b

-- ---- A form, from the table

abbrev pub covers_form : ℕ → List Bool → List TyVar → TyForm → Bool
covers_form first table vars (Var v) = among vars v
covers_form first table vars (Fields fields) = list_all (λ f. held_at first table f.ty.0) fields
covers_form first table vars (Arrow a b) = held_at first table a.0 && held_at first table b.0
covers_form first table vars (Named n args) = all_held first table args

abbrev pub equality_at : List TypeName → ℕ → Equality
equality_at names n = name_equality (slice_get names n)

abbrev pub admits_form : ℕ → List Bool → List TypeName → TyForm → Bool
admits_form first table names (Var v) = true
admits_form first table names (Fields fields) = list_all (λ f. held_at first table f.ty.0) fields
admits_form first table names (Arrow a b) = false
admits_form first table names (Named n args) = by_equality (equality_at names n) (all_held first table args)
