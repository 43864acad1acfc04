-- Where the trees of a list of nodes begin, each node behind its parts.
use Rattle.std.specs.Prelude.{◌≡◌, ℕ, zero, suc, List, [], ◌∷◌, ◌++◌, length, get_or, slice_get, Some}
use Rattle.smlc_base.specs.declared.place.Place.{Place}
use Rattle.sml_tree.specs.declared.tree_node.TreeNode.{TreeNode}
use Rattle.sml_tree.specs.Parts.{parts_of}
use Rattle.sml_expansion.specs.Terms.{Term, leaf, one, two, three, four}

-- The number of nodes before the last k trees of the first n nodes, by the number of nodes before each node's tree.
abbrev pub before : List ℕ → ℕ → ℕ → ℕ
before starts zero n = n
before starts (suc k) zero = zero
before starts (suc k) (suc n) = before starts k (get_or starts n 0)

-- the number of nodes before the tree of each node, behind those that are known
abbrev pub starts_behind : List ℕ → List TreeNode → List ℕ
starts_behind starts [] = starts
starts_behind starts (n ∷ nodes) = starts_behind (starts ++ before starts (parts_of n) (length starts) ∷ []) nodes

abbrev pub starts_of : List TreeNode → List ℕ
starts_of nodes = starts_behind [] nodes

-- Node i, with these numbers of nodes before the trees, is the root of a tree. The last part of a node is the node before it, and each other part
-- is the node before the tree of the part on its right.
pub data IsTree (nodes : List TreeNode) (places : List Place) (starts : List ℕ) : ℕ → Term → Type 0 where
  is_leaf : (i : ℕ) (n : TreeNode) (p : Place) → slice_get nodes i ≡ Some n → slice_get places i ≡ Some p → parts_of n ≡ 0 → slice_get starts i ≡ Some i
      → IsTree nodes places starts i (leaf n p)
  is_one : (a : ℕ) (s : Term) (n : TreeNode) (p : Place) (j : ℕ) → IsTree nodes places starts a s
      → slice_get nodes (suc a) ≡ Some n → slice_get places (suc a) ≡ Some p → parts_of n ≡ 1 → slice_get starts a ≡ Some j → slice_get starts (suc a) ≡ Some j
      → IsTree nodes places starts (suc a) (one n p s)
  is_two : (a b : ℕ) (s t : Term) (n : TreeNode) (p : Place) (j : ℕ) → IsTree nodes places starts a s → IsTree nodes places starts b t
      → slice_get starts b ≡ Some (suc a)
      → slice_get nodes (suc b) ≡ Some n → slice_get places (suc b) ≡ Some p → parts_of n ≡ 2 → slice_get starts a ≡ Some j → slice_get starts (suc b) ≡ Some j
      → IsTree nodes places starts (suc b) (two n p s t)
  is_three : (a b c : ℕ) (s t u : Term) (n : TreeNode) (p : Place) (j : ℕ) → IsTree nodes places starts a s → IsTree nodes places starts b t → IsTree nodes places starts c u
      → slice_get starts b ≡ Some (suc a) → slice_get starts c ≡ Some (suc b)
      → slice_get nodes (suc c) ≡ Some n → slice_get places (suc c) ≡ Some p → parts_of n ≡ 3 → slice_get starts a ≡ Some j → slice_get starts (suc c) ≡ Some j
      → IsTree nodes places starts (suc c) (three n p s t u)
  is_four : (a b c d : ℕ) (s t u v : Term) (n : TreeNode) (p : Place) (j : ℕ) → IsTree nodes places starts a s → IsTree nodes places starts b t → IsTree nodes places starts c u → IsTree nodes places starts d v
      → slice_get starts b ≡ Some (suc a) → slice_get starts c ≡ Some (suc b) → slice_get starts d ≡ Some (suc c)
      → slice_get nodes (suc d) ≡ Some n → slice_get places (suc d) ≡ Some p → parts_of n ≡ 4 → slice_get starts a ≡ Some j → slice_get starts (suc d) ≡ Some j
      → IsTree nodes places starts (suc d) (four n p s t u v)
