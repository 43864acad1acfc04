-- The type variables from which inference starts: the explicit ones, the library's parameter, one for each node, one for each name.
use Rattle.std.specs.Prelude.{◌≡◌, ℕ, suc, ◌+◌, ◌<◌, ◌^◌, false, Some, List, length, slice_get}
use Rattle.sml_tree.specs.declared.bare.Bare.{Bare}
use Rattle.sml_types.specs.declared.types.TyVar.{TyVar}
use Rattle.sml_types.specs.declared.types.TyForm.{TyForm}
use Rattle.sml_types.specs.declared.types.TyForm.TheVariants.{Var}
use Rattle.sml_types.specs.TypeExps.{explicit}
use Rattle.infer_state.specs.declared.declared.Starts.{Starts}

abbrev pub first_node : Bare → ℕ
first_node p = suc (length p.tyvars)

abbrev pub first_name : Bare → ℕ
first_name p = first_node p + length p.nodes

-- the number of the first variable that is made later
abbrev pub first_new : Bare → ℕ
first_new p = first_name p + length p.names

-- stands for the type of a node
abbrev pub node_var : Bare → ℕ → TyVar
node_var p i = record { num = first_node p + i; eq = false }

-- stands for the type of a name
abbrev pub name_var : Bare → ℕ → TyVar
name_var p x = record { num = first_name p + x; eq = false }

-- the forms of these variables stand in their order
pub record AreLaidOut (p : Bare) (forms : List TyForm) (starts : Starts) : Type 0 where
  pub explicit_ones : (u : ℕ) → u < length p.tyvars → slice_get forms (starts.explicit + u) ≡ Some (Var (explicit p.tyvars u))
  pub of_nodes : (i : ℕ) → i < length p.nodes → slice_get forms (starts.nodes + i) ≡ Some (Var (node_var p i))
  pub of_names : (x : ℕ) → x < length p.names → slice_get forms (starts.names + x) ≡ Some (Var (name_var p x))
  pub few : starts.explicit + length p.tyvars < 2 ^ 32
  pub few_nodes : starts.nodes + length p.nodes < 2 ^ 32
  pub few_names : starts.names + length p.names < 2 ^ 32
