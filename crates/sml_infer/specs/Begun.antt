-- What inference goes over, and what it is before the first node.
use Rattle.std.specs.Prelude.{◌≡◌, ℕ, ◌<◌, ◌≤◌, Bool, Option, Some, List, length, slice_get}
use Rattle.std.specs.List.{AllByRecursion}
use Rattle.sml_tree.specs.declared.bare.Bare.{Bare}
use Rattle.sml_tree.specs.declared.bare.Node.{Node}
use Rattle.sml_tree.specs.BareParts.{IsNumbered}
use Rattle.sml_types.specs.Forms.{AreForms}
use Rattle.infer_state.specs.declared.unknowns.Unknowns.{Unknowns}
use Rattle.infer_scopes.specs.Prefix.{IsPrefix}
use Rattle.infer_scopes.specs.Scopes.{AllOpen, IsFirst, contexts_of}
use Rattle.infer_nodes.specs.Good.{AreTypesGood}
use Rattle.infer_laws.specs.Cited.{node_types}
use Rattle.sml_infer.specs.declared.inference.Inference.{Inference}

-- the nodes below a number can be inferred by themselves
pub record IsGoodPrefix (p : Bare) (count : ℕ) : Type 0 where
  pub numbered : IsNumbered p.nodes
  pub prefix : IsPrefix p.nodes count
  pub good : AreTypesGood p
  pub within : count ≤ length p.nodes

-- a list of so many places, with nothing in them
pub record AreNone {T : Type 0} (count : ℕ) (places : List (Option T)) : Type 0 where
  pub many : length places ≡ count
  pub none : (i : ℕ) (x : T) → slice_get places i ≡ Some (Some x) → ⊥

-- inference of the nodes below a number, before the first one
pub record IsBegun (p : Bare) (count : ℕ) (s : Unknowns) (w : Inference) : Type 0 where
  pub below : w.count ≡ count
  pub done : w.done ≡ 0
  pub unknowns : w.unknowns ≡ s
  pub forms : AreForms s.types
  pub settled : AreNone (length p.names) w.settled.items
  pub behind : AreNone (length p.nodes) w.behind.items
  pub first : IsFirst (contexts_of w.scopes)
  pub opened : (q : ℕ → Bool) → AllOpen q w.scopes

-- the written types of the nodes below a number stand below another
abbrev pub AreTypesBelow : Bare → ℕ → ℕ → Type 0
AreTypesBelow p limit count = (i : ℕ) (n : Node) → i < count → slice_get p.nodes i ≡ Some n → AllByRecursion (λ j. j < limit) (node_types n)
