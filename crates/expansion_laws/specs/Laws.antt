-- The law of the expansion: what it makes of the library's parse tree and of a program's is a bare tree, where no rule is broken.
use Rattle.std.specs.Prelude.{◌≡◌, suc, ◌<◌, ◌≤◌, ◌^◌, None, length}
use Rattle.std.specs.List.{AllByRecursion}
use Rattle.sml_tree.specs.declared.tree.Tree.{Tree}
use Rattle.sml_tree.specs.declared.tree_node.TreeNode.{TreeNode}
use Rattle.sml_tree.specs.declared.tree_node.TreeNode.TheVariants as node
use Rattle.sml_tree.specs.IsBare.{IsBare}
use Rattle.sml_expansion.specs.Whole.{Continues, bare_of, broken, width_limit}

-- a character constant is a byte
abbrev pub CharFits : TreeNode → Type 0
CharFits (node.Char c) = c < 256
CharFits _ = Unit {0}

-- where the nodes can be numbered
abbrev pub IsCounted : Tree → Tree → Type 0
IsCounted library tree = suc (length (bare_of library tree).nodes) < 2 ^ 32

-- both trees have bytes as character constants, and the program's goes on where the library's ends
pub record AreReady (library tree : Tree) : Type 0 where
  pub library_chars : AllByRecursion CharFits library.nodes
  pub chars : AllByRecursion CharFits tree.nodes
  pub continues : Continues library tree

abbrev pub ExpandsToBare : Tree → Tree → Type 0
ExpandsToBare library tree = AreReady library tree → IsCounted library tree → broken library tree ≡ None → (bare_of library tree).width ≤ width_limit → IsBare (bare_of library tree)
