-- The parse tree as a tree, and the list of nodes that spells it.
use Rattle.std.specs.Prelude.{ℕ, zero, suc, List, [], ◌∷◌, ◌++◌, reverse}
use Rattle.smlc_base.specs.declared.place.Place.{Place}
use Rattle.sml_tree.specs.declared.tree_node.TreeNode.{TreeNode}
use Rattle.sml_tree.specs.Parts.{parts_of}

-- a node with its place and its parts
pub data Term : Type 0 where
  leaf : TreeNode → Place → Term
  one : TreeNode → Place → Term → Term
  two : TreeNode → Place → Term → Term → Term
  three : TreeNode → Place → Term → Term → Term → Term
  four : TreeNode → Place → Term → Term → Term → Term → Term

abbrev pub place_at : Term → Place
place_at (leaf n p) = p
place_at (one n p a) = p
place_at (two n p a b) = p
place_at (three n p a b c) = p
place_at (four n p a b c d) = p

abbrev pub node_of : Term → TreeNode
node_of (leaf n p) = n
node_of (one n p a) = n
node_of (two n p a b) = n
node_of (three n p a b c) = n
node_of (four n p a b c d) = n

-- the nodes that spell a tree: each behind its parts
abbrev pub spells : Term → List (TreeNode × Place)
spells (leaf n p) = (n, p) ∷ []
spells (one n p a) = spells a ++ (n, p) ∷ []
spells (two n p a b) = spells a ++ spells b ++ (n, p) ∷ []
spells (three n p a b c) = spells a ++ spells b ++ spells c ++ (n, p) ∷ []
spells (four n p a b c d) = spells a ++ spells b ++ spells c ++ spells d ++ (n, p) ∷ []

-- The trees that were read, the last first, with one more node, which takes so many of them as its parts.
abbrev pub joined : ℕ → TreeNode → Place → List Term → List Term
joined zero n p s = leaf n p ∷ s
joined (suc zero) n p (a ∷ s) = one n p a ∷ s
joined (suc (suc zero)) n p (b ∷ a ∷ s) = two n p a b ∷ s
joined (suc (suc (suc zero))) n p (c ∷ b ∷ a ∷ s) = three n p a b c ∷ s
joined (suc (suc (suc (suc zero)))) n p (d ∷ c ∷ b ∷ a ∷ s) = four n p a b c d ∷ s
joined _ n p s = s

abbrev pub reads : List Term → List TreeNode → List Place → List Term
reads s (n ∷ nodes) (p ∷ places) = reads (joined (parts_of n) n p s) nodes places
reads s _ _ = reverse s

-- the trees that these nodes with these places spell, from left to right
abbrev pub trees : List TreeNode → List Place → List Term
trees nodes places = reads [] nodes places
