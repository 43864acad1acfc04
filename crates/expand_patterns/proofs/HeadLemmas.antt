-- Clauses and heads by the node at their root.
use Rattle.std.proofs.Common.{◌≡◌, refl}
use Rattle.sml_tree.specs.declared.tree_node.TreeNode.TheVariants as node
use Rattle.sml_expansion.specs.Terms.{Term, two, three, four, node_of}
use Rattle.sml_expansion.specs.Clauses.{head, first_clause, name_of}

pub head_same : (t : Term) → (node_of t ≡ node.Clause → ⊥) → (node_of t ≡ node.TypedClause → ⊥) → head t ≡ t
head_same (two node.Clause p h e) x y = absurd (x refl)
head_same (three node.TypedClause p h t e) x y = absurd (y refl)
head_same _ x y = refl

pub first_same : (t : Term) → (node_of t ≡ node.MoreClauses → ⊥) → first_clause t ≡ t
first_same (two node.MoreClauses p a b) x = absurd (x refl)
first_same _ x = refl

pub name_same : (t : Term) → (node_of t ≡ node.Head → ⊥) → (node_of t ≡ node.InfixHead → ⊥) → (node_of t ≡ node.ParenHead → ⊥) → (node_of t ≡ node.ParenHeadArgs → ⊥) → name_of t ≡ t
name_same (two node.Head p v ps) x y z w = absurd (x refl)
name_same (three node.InfixHead p a v b) x y z w = absurd (y refl)
name_same (three node.ParenHead p a v b) x y z w = absurd (z refl)
name_same (four node.ParenHeadArgs p a v b ps) x y z w = absurd (w refl)
name_same _ x y z w = refl
