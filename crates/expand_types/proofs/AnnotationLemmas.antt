-- The types of a pattern by what its node is.
use Rattle.std.proofs.Common.{◌≡◌, ◌≢◌, ℕ, List, [], ◌∷◌, refl, sym, ap, ◌∙◌, subst}
use Rattle.smlc_base.specs.declared.place.Place.{Place}
use Rattle.sml_tree.specs.declared.tree_node.TreeNode.{TreeNode}
use Rattle.sml_tree.specs.declared.tree_node.TreeNode.TheVariants as node
use Rattle.sml_expansion.specs.declared.made.Made.{Made}
use Rattle.sml_expansion.specs.Makings.{Runs}
use Rattle.sml_expansion.specs.Terms.{Term, leaf, one, two, three, four, node_of}
use Rattle.sml_expansion.specs.Sources.{Source, IsAt, node_at}
use Rattle.sml_expansion.specs.Scopes.{Scope}
use Rattle.sml_expansion.specs.Types.{type_of}
use Rattle.sml_expansion.specs.Bindings.{annotations}
use Rattle.sml_expansion.proofs.Shapes.{as_two, node_is}
use Rattle.expand_types.proofs.Steps.{behind, Pair}

other_two : (s : Scope) (n : TreeNode) (p : Place) (a b : Term) (m : Made) → n ≢ node.TypedPat → annotations s (two n p a b) m ≡ ([], m)
other_two s node.TypedPat p a b m e = absurd (e refl)
other_two s _ p a b m e = refl

other : (s : Scope) (t : Term) (m : Made) → node_of t ≢ node.TypedPat → annotations s t m ≡ ([], m)
other s (leaf n p) m e = refl
other s (one n p a) m e = refl
other s (two n p a b) m e = other_two s n p a b m e
other s (three n p a b c) m e = refl
other s (four n p a b c d) m e = refl

module _ (src : Source) (s : Scope) where
  pub in_typed : (i ja jt : ℕ) (m k n : Made) (x all rest : List ℕ) (y : ℕ) → node.TypedPat ≡ node_at src i → Pair src i ja jt → ((t : Term) → IsAt src ja t → Runs (annotations s t) m x k) → ((t : Term) → IsAt src jt t → Runs (type_of s t) k y n)
      → rest ≡ x → all ≡ y ∷ rest → (t : Term) → IsAt src i t → Runs (annotations s t) m all n
  in_typed i ja jt m k n x all rest y e parts h g same is t w = as_two src i t node.TypedPat w (sym e) refl (λ t. Runs (annotations s t) m all n) (λ p a b u.
      let inside = parts node.TypedPat p a b u in
      behind (annotations s a) (λ q l. ((type_of s b l).0 ∷ q, (type_of s b l).1)) m k n x all (h a inside.0) (ap (λ r. (r.0 ∷ x, r.1)) (g b inside.1) ∙ ap (λ q. (q, n)) (sym (is ∙ ap (λ q. y ∷ q) same))))

  pub in_other : (i : ℕ) (m : Made) (none : List ℕ) → node_at src i ≢ node.TypedPat → none ≡ [] → (t : Term) → IsAt src i t → Runs (annotations s t) m none m
  in_other i m none no_type is t w = other s t m (subst (λ q. q ≢ node.TypedPat) (node_is src i t w) no_type) ∙ ap (λ q. (q, m)) (sym is)
