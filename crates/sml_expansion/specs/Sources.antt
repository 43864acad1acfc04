-- A parse tree as it is stored, and the trees in it.
use Rattle.std.specs.Prelude.{ℕ, List, get_or}
use Rattle.smlc_base.specs.declared.place.Place.{Place}
use Rattle.sml_tree.specs.declared.tree_node.TreeNode.{TreeNode}
use Rattle.sml_tree.specs.declared.tree_node.TreeNode.TheVariants as node
use Rattle.sml_expansion.specs.Terms.{Term}
use Rattle.sml_expansion.specs.Starts.{starts_of, IsTree}

-- The texts of its names, and its nodes with their places.
pub record Source : Type 0 where
  pub names : List (List ℕ)
  pub nodes : List TreeNode
  pub places : List Place

-- node i is the root of this tree
abbrev pub IsAt : Source → ℕ → Term → Type 0
IsAt s i t = IsTree s.nodes s.places (starts_of s.nodes) i t

-- the node of a number; there is none past the end, which reads as one without parts
abbrev pub node_at : Source → ℕ → TreeNode
node_at s i = get_or s.nodes i node.NoDecs
