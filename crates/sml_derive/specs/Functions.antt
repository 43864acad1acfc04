-- Functions in the tree.
use Rattle.std.specs.Prelude.{ℕ, Option, Some, None}
use Rattle.sml_tree.specs.declared.tree_node.TreeNode.TheVariants as node
use Rattle.sml_expansion.specs.Terms.{Term, one}
use Rattle.sml_expansion.specs.Sources.{Source, IsAt}

-- the match of a `fn`, perhaps parenthesised
abbrev pub match_in : Term → Option Term
match_in (one node.Fn p m) = Some m
match_in (one node.Paren p a) = match_in a
match_in _ = None

-- a tree that may be there is at a number
abbrev pub Finds : Source → Option Term → Option ℕ → Type 0
Finds s (Some t) (Some i) = IsAt s i t
Finds s None None = Unit {0}
Finds s _ _ = ⊥
