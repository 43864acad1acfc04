-- The list of a tree's nodes, each behind its parts.
use Rattle.std.specs.Prelude.{ℕ, suc, ◌+◌, ◌-◌, ◌^◌, ◌&&◌, Bool, true, cond, nat_lt, nat_le, nat_eq, pos, neg_ℤ, int_le, drop, length, reverse, Option, Some, None, List, [], ◌∷◌}
use Rattle.std.specs.List.{list_all}
use Rattle.sml_tree.specs.declared.tree_node.TreeNode.{TreeNode}
use Rattle.sml_tree.specs.declared.tree_node.TreeNode.TheVariants as node
use Rattle.sml_tree.specs.Parts.{parts_of}

-- The numbers of the roots, read from left to right: i is the number of the next node, and s has the roots of the
-- finished phrases, the last first. A node takes its parts from them and is then one itself.
abbrev pub roots : ℕ → List ℕ → List TreeNode → Option (List ℕ)
roots i s [] = Some (reverse s)
roots i s (m ∷ o) = cond (nat_le (parts_of m) (length s)) (roots (suc i) (i ∷ drop (parts_of m) s) o) None

-- the name or text that a node cites is one of so many, and an integer constant lies in its range
abbrev pub is_cited : ℕ → ℕ → TreeNode → Bool
is_cited names texts (node.Vid x) = nat_lt x.0 names
is_cited names texts (node.LongVid x) = nat_lt x.0 names
is_cited names texts (node.TyCon x) = nat_lt x.0 names
is_cited names texts (node.LongTyCon x) = nat_lt x.0 names
is_cited names texts (node.TyVar x) = nat_lt x.0 names
is_cited names texts (node.Label x) = nat_lt x.0 names
is_cited names texts (node.LabelNumber z) = int_le (neg_ℤ (pos (2 ^ 62))) z && int_le z (pos (2 ^ 62 - 1))
is_cited names texts (node.Int z) = int_le (neg_ℤ (pos (2 ^ 62))) z && int_le z (pos (2 ^ 62 - 1))
is_cited names texts (node.Text i) = nat_lt i texts
is_cited names texts _ = true

abbrev pub all_cited : ℕ → ℕ → List TreeNode → Bool
all_cited names texts nodes = list_all (is_cited names texts) nodes

-- how many of these nodes have no parts
abbrev pub leaves : List TreeNode → ℕ
leaves [] = 0
leaves (m ∷ o) = cond (nat_eq (parts_of m) 0) 1 0 + leaves o
