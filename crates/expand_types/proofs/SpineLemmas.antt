-- Walks along the spine of a list, each item behind those before it, where the items have numbers that follow each other.
use Rattle.std.proofs.Common.{◌≡◌, ℕ, suc, sym, ap, ◌∙◌}
use Rattle.smlc_base.specs.declared.place.Place.{Place}
use Rattle.sml_tree.specs.declared.tree_node.TreeNode.{TreeNode}
use Rattle.sml_tree.specs.Parts.{parts_of}
use Rattle.sml_expansion.specs.declared.made.Made.{Made}
use Rattle.sml_expansion.specs.Makings.{Makes, Runs}
use Rattle.sml_expansion.specs.Terms.{Term, two}
use Rattle.sml_expansion.specs.Sources.{Source, IsAt, node_at}
use Rattle.sml_expansion.proofs.Shapes.{as_two}
use Rattle.expand_types.proofs.Steps.{behind, Pair}

module _ {X S : Type 0} (src : Source) (f : ℕ → Term → Makes X) (add : S → X → S) where
  -- what is done behind what was
  abbrev pub Does : ℕ → ℕ → Made → S → Made → S → Type 0
  Does k i m before n after = (t : Term) → IsAt src i t → (x : X) × Runs (f k t) m x n × (after ≡ add before x)

  -- what is left at a node
  abbrev pub Left : ℕ → ℕ → Made → S → ℕ → ℕ → Made → S → Type 0
  Left k i m before l r n after = (t : Term) → IsAt src i t → (u : Term) × IsAt src r u × ((y : X) (o : Made) → Runs (f l u) n y o → (z : X) × Runs (f k t) m z o × (add after y ≡ add before z))

  pub left_on : (join : X → X → X) → ((s : S) (x y : X) → add (add s x) y ≡ add s (join x y)) → (more : TreeNode) → parts_of more ≡ 2
      → ((k : ℕ) (p : Place) (a b : Term) (m : Made) → f k (two more p a b) m ≡ (let x = f k a m in let y = f (suc k) b x.1 in (join x.0 y.0, y.1)))
      → (k i l r j h : ℕ) (m n o : Made) (before after next : S) → Left k i m before l r n after → more ≡ node_at src r → Pair src r j h → Does l j n after o next → Left k i m before (suc l) h o next
  left_on join assoc more count is k i l r j h m n o before after next left e parts does t w =
      let u = left t w in
      as_two src r u.0 more u.1 (sym e) count (λ u. ((y : X) (q : Made) → Runs (f l u) n y q → (z : X) × Runs (f k t) m z q × (add after y ≡ add before z))
      → (v : Term) × IsAt src h v × ((y : X) (q : Made) → Runs (f (suc l) v) o y q → (z : X) × Runs (f k t) m z q × (add next y ≡ add before z)))
      (λ p a b at. λ run.
      let inside = parts more p a b at in
      let x = does a inside.0 in (
        b,
        inside.1,
        λ y q further.
            let both : Runs (f l (two more p a b)) n (join x.0 y) q =
            is l p a b n ∙ behind (f l a) (λ c d. (join c (f (suc l) b d).0, (f (suc l) b d).1)) n o q x.0 (join x.0 y) x.1 (ap (λ r. (join x.0 r.0, r.1)) further) in
            let z = run (join x.0 y) q both in
            (z.0, z.1, ap (λ c. add c y) x.2 ∙ assoc after x.0 y ∙ z.2),
      ))
      u.2

  pub left_end : (k i l r : ℕ) (m n o : Made) (before after all : S) → Left k i m before l r n after → Does l r n after o all → Does k i m before o all
  left_end k i l r m n o before after all left does t w =
      let u = left t w in
      let y = does u.0 u.1 in
      let z = u.2 y.0 o y.1 in
      (z.0, z.1, y.2 ∙ z.2)
