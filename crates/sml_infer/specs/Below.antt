-- What there is when the nodes below a number are inferred.
use Rattle.std.specs.Prelude.{◌≡◌, ℕ, ◌<◌, ◌≤◌, Option, Some, List, length, slice_get}
use Rattle.std.specs.List.{AllByRecursion}
use Rattle.sml_tree.specs.declared.bare.Bare.{Bare}
use Rattle.sml_tree.specs.declared.bare.Node.{Node}
use Rattle.sml_tree.specs.BareParts.{IsNumbered}
use Rattle.sml_types.specs.declared.types.TyVar.{TyVar}
use Rattle.sml_types.specs.Typing.{Typing}
use Rattle.sml_unify.specs.declared.resolve.Rename.{Rename}
use Rattle.sml_unify.specs.Steps.{IsLonger}
use Rattle.infer_state.specs.declared.unknowns.Unknowns.{Unknowns}
use Rattle.infer_state.specs.declared.declared.Declared.{Declared}
use Rattle.infer_tables.specs.Declare.{IsDeclared}
use Rattle.infer_laws.specs.Cited.{node_types, AreCitedUpTo}
use Rattle.infer_scopes.specs.Scopes.{contexts_of, first_context}
use Rattle.infer_nodes.specs.Good.{AreTypesGood}
use Rattle.infer_checks.specs.Checked.{IsChecked, ended}
use Rattle.sml_infer.specs.declared.below.Below.{Below}
use Rattle.sml_infer.specs.Going.{Now, now, let_of, IsGoing}

-- the written types of the nodes below a number cite type bindings that are declared
abbrev pub AreTypesCited : Bare → Declared → ℕ → Type 0
AreTypesCited p d count = (i : ℕ) (n : Node) → i < count → slice_get p.nodes i ≡ Some n → AllByRecursion (λ j. AreCitedUpTo p.types (length d.abbreviations) j) (node_types n)

-- all nodes below a number are done, what stands behind declarations has its context, and the checks were made
pub record IsEnded (p : Bare) (count : ℕ) (d : Declared) (w : Now) (general : List (Option (List TyVar))) (renames : List Rename) : Type 0 where
  pub starting : Unknowns
  pub tables : IsDeclared p count d starting
  pub longer : IsLonger starting.types w.unknowns.types
  pub reached : ℕ
  pub going : IsGoing p count d w count count reached
  pub all_reached : (e i : ℕ) → let_of w e ≡ Some i → e < reached
  pub root : contexts_of w.scopes 0 ≡ Some first_context
  pub checked : IsChecked p d (contexts_of w.scopes) w.settled general w.unknowns count renames
  pub numbered : IsNumbered p.nodes
  pub good : AreTypesGood p
  pub cited : AreTypesCited p d count
  pub named : length w.settled ≡ length p.names
  pub within : count ≤ length p.nodes

abbrev pub IsBelow : Bare → ℕ → Below → Type 0
IsBelow p count b = IsEnded p count b.declared (now b.work) b.work.general.items b.renames.items

-- the typing of what was inferred
abbrev pub typing_below : Bare → Below → Typing
typing_below p b = ended p b.declared (contexts_of b.work.scopes) b.work.settled.items b.work.general.items b.work.unknowns b.renames.items
