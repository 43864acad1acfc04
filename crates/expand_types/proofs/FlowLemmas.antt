-- Walks that make a list of a tree.
use Rattle.std.proofs.Common.{◌≡◌, ℕ, List, ◌++◌, sym, ap, ◌∙◌, append_assoc}
use Rattle.smlc_base.specs.declared.place.Place.{Place}
use Rattle.sml_tree.specs.declared.tree_node.TreeNode.{TreeNode}
use Rattle.sml_tree.specs.Parts.{parts_of}
use Rattle.sml_expansion.specs.Terms.{Term, one, two, three}
use Rattle.sml_expansion.specs.Sources.{Source, IsAt, node_at}
use Rattle.sml_expansion.proofs.Shapes.{as_one, as_two, as_three}
use Rattle.expand_types.proofs.Steps.{Flows, Part, Pair, Triple}

module _ {X : Type 0} (src : Source) (f : Term → List X) where
  -- what a walk over the tree at a node puts behind a list
  abbrev pub Puts : ℕ → List X → List X → Type 0
  Puts i old new = (t : Term) → IsAt src i t → new ≡ old ++ f t

  pub flows_on : (at rest first behind : ℕ) (old mid new : List X) (o : TreeNode) → Flows src f at old rest mid → o ≡ node_at src rest → parts_of o ≡ 2 → ((p : Place) (a b : Term) → f (two o p a b) ≡ f a ++ f b)
      → Pair src rest first behind → Puts first mid new → Flows src f at old behind new
  flows_on at rest first behind old mid new o flows e pair is parts h t w =
      let u = flows t w in
      as_two src rest u.0 o u.1 (sym e) pair (λ u. mid ++ f u ≡ old ++ f t → (v : Term) × IsAt src behind v × (new ++ f v ≡ old ++ f t))
      (λ p a b k. λ g.
      let inside = parts o p a b k in
      (b, inside.1, ap (λ q. q ++ f b) (h a inside.0) ∙ append_assoc mid (f a) (f b) ∙ ap (λ q. mid ++ q) (sym (is p a b)) ∙ g))
      u.2

  pub flows_end : (at rest : ℕ) (old mid new : List X) → Flows src f at old rest mid → Puts rest mid new → Puts at old new
  flows_end at rest old mid new flows h t w =
      let u = flows t w in
      h u.0 u.1 ∙ u.2

  pub in_only : (i j : ℕ) (old new : List X) (o : TreeNode) → o ≡ node_at src i → parts_of o ≡ 1 → ((p : Place) (a : Term) → f (one o p a) ≡ f a) → Part src i j → Puts j old new → Puts i old new
  in_only i j old new o e k is part h t w = as_one src i t o w (sym e) k (λ t. new ≡ old ++ f t) (λ p a u. h a (part o p a u) ∙ ap (λ q. old ++ q) (sym (is p a)))

  pub in_first_of_two : (i j k : ℕ) (old new : List X) (o : TreeNode) → o ≡ node_at src i → parts_of o ≡ 2 → ((p : Place) (a b : Term) → f (two o p a b) ≡ f a) → Pair src i j k → Puts j old new → Puts i old new
  in_first_of_two i j k old new o e n is parts h t w = as_two src i t o w (sym e) n (λ t. new ≡ old ++ f t) (λ p a b u. h a (parts o p a b u).0 ∙ ap (λ q. old ++ q) (sym (is p a b)))

  pub in_first_of_three : (i j k l : ℕ) (old new : List X) (o : TreeNode) → o ≡ node_at src i → parts_of o ≡ 3 → ((p : Place) (a b c : Term) → f (three o p a b c) ≡ f a) → Triple src i j k l → Puts j old new → Puts i old new
  in_first_of_three i j k l old new o e n is parts h t w = as_three src i t o w (sym e) n (λ t. new ≡ old ++ f t) (λ p a b c u. h a (parts o p a b c u).0 ∙ ap (λ q. old ++ q) (sym (is p a b c)))
