-- A list of nodes, each behind its parts, has its trees where the numbers of the nodes before them say.
use Rattle.std.proofs.Common.{◌≡◌, ◌≤◌, ℕ, zero, suc, ◌+◌, ◌-◌, true, List, [], ◌∷◌, ◌++◌, length, slice_get, drop, reverse, Some, refl, sym, ap, ◌∙◌, arith, rules, subst}
use Rattle.std.specs.Prelude.{nat_le}
use Rattle.smlc_base.specs.declared.place.Place.{Place}
use Rattle.sml_tree.specs.declared.tree_node.TreeNode.{TreeNode}
use Rattle.sml_tree.specs.declared.tree_node.TreeNode.TheVariants as node
use Rattle.sml_tree.specs.Parts.{parts_of}
use Rattle.sml_expansion.specs.Terms.{Term, leaf, one, two, three, four, joined, reads, trees}
use Rattle.std.proofs.lemmas.List.{length-drop, reverse-append}
use Rattle.sml_expansion.proofs.StartLemmas.{back, says_starts}
use Rattle.sml_expansion.specs.Starts.{before, starts_of, IsTree, is_leaf, is_one, is_two, is_three, is_four}

-- no node has more than four parts
few_parts : (n : TreeNode) → nat_le (parts_of n) 4 ≡ true
few_parts node.Val = refl
few_parts _ = refl

pub few : (n : TreeNode) (k : ℕ) → parts_of n ≡ suc (suc (suc (suc (suc k)))) → ⊥
few n k e = let h : nat_le (parts_of n) 4 ≡ true = few_parts n in let l : parts_of n ≤ 4 = search rules in omega (arith, e, l)

-- The roots behind more nodes, the last first, where the first of them has number m.
abbrev pub roots_behind : ℕ → List ℕ → List TreeNode → List ℕ
roots_behind m roots [] = roots
roots_behind m roots (n ∷ ns) = roots_behind (suc m) (m ∷ drop (parts_of n) roots) ns

-- each node finds its parts among the trees before it, of which there are so many
abbrev pub HaveParts : ℕ → List TreeNode → Type 0
HaveParts trees [] = Unit {0}
HaveParts trees (n ∷ ns) = (parts_of n ≤ trees) × HaveParts (suc (trees - parts_of n)) ns

module _ (nodes : List TreeNode) (places : List Place) (starts : List ℕ) where
  -- The first nodes are the nodes of these trees with these roots, the last first.
  pub data AreRead : ℕ → List ℕ → List Term → Type 0 where
    none_read : AreRead 0 [] []
    one_read : (i j : ℕ) (t : Term) (roots : List ℕ) (terms : List Term) → IsTree nodes places starts i t → slice_get starts i ≡ Some j → AreRead j roots terms → AreRead (suc i) (i ∷ roots) (t ∷ terms)

  -- what the numbers say of each node
  abbrev Says : Type 0
  Says = (i : ℕ) (n : TreeNode) → slice_get nodes i ≡ Some n → slice_get starts i ≡ Some (before starts (parts_of n) i)

  here : Says → (m : ℕ) (n : TreeNode) → slice_get nodes m ≡ Some n → parts_of n ≡ 0 → slice_get starts m ≡ Some m
  here says m n e g = says m n e ∙ ap Some (ap (λ k. before starts k m) g)

  walk : Says → (m k : ℕ) (n : TreeNode) (j : ℕ) → slice_get nodes m ≡ Some n → parts_of n ≡ k → before starts k m ≡ j → slice_get starts m ≡ Some j
  walk says m k n j e g b = says m n e ∙ ap Some (ap (λ k. before starts k m) g ∙ b)

  -- the node behind those that were read takes its parts
  read_one : Says → (m k : ℕ) (roots : List ℕ) (terms : List Term) (n : TreeNode) (p : Place) → AreRead m roots terms → slice_get nodes m ≡ Some n → slice_get places m ≡ Some p → parts_of n ≡ k → k ≤ length terms
      → AreRead (suc m) (m ∷ drop k roots) (joined k n p terms)
  read_one says m zero roots terms n p r e f g w = one_read m m (leaf n p) roots terms (is_leaf m n p e f g (here says m n e g)) (here says m n e g) r
  read_one says _ (suc zero) _ _ n p (one_read a j s roots terms t b r) e f g w =
      let h : slice_get starts (suc a) ≡ Some j = walk says (suc a) 1 n j e g (back starts 0 a j b) in
      one_read (suc a) j (one n p s) roots terms (is_one a s n p j t e f g b h) h r
  read_one says _ (suc zero) _ _ n p none_read e f g w = absurd (omega (arith, w))
  read_one says _ (suc (suc zero)) _ _ n p (one_read b _ t _ _ y c (one_read a j s roots terms x d r)) e f g w =
      let h : slice_get starts (suc b) ≡ Some j = walk says (suc b) 2 n j e g (back starts 1 b (suc a) c ∙ back starts 0 a j d) in
      one_read (suc b) j (two n p s t) roots terms (is_two a b s t n p j x y c e f g d h) h r
  read_one says _ (suc (suc zero)) _ _ n p none_read e f g w = absurd (omega (arith, w))
  read_one says _ (suc (suc zero)) _ _ n p (one_read b _ t _ _ y c none_read) e f g w = absurd (omega (arith, w))
  read_one says _ (suc (suc (suc zero))) _ _ n p (one_read c _ u _ _ z o (one_read b _ t _ _ y q (one_read a j s roots terms x d r))) e f g w =
      let h : slice_get starts (suc c) ≡ Some j = walk says (suc c) 3 n j e g (back starts 2 c (suc b) o ∙ back starts 1 b (suc a) q ∙ back starts 0 a j d) in
      one_read (suc c) j (three n p s t u) roots terms (is_three a b c s t u n p j x y z q o e f g d h) h r
  read_one says _ (suc (suc (suc zero))) _ _ n p none_read e f g w = absurd (omega (arith, w))
  read_one says _ (suc (suc (suc zero))) _ _ n p (one_read c _ u _ _ z o none_read) e f g w = absurd (omega (arith, w))
  read_one says _ (suc (suc (suc zero))) _ _ n p (one_read c _ u _ _ z o (one_read b _ t _ _ y q none_read)) e f g w = absurd (omega (arith, w))
  read_one says _ (suc (suc (suc (suc zero)))) _ _ n p (one_read v _ w4 _ _ tv ov (one_read c _ u _ _ z o (one_read b _ t _ _ y q (one_read a j s roots terms x d r)))) e f g w =
      let h : slice_get starts (suc v) ≡ Some j = walk says (suc v) 4 n j e g (back starts 3 v (suc c) ov ∙ back starts 2 c (suc b) o ∙ back starts 1 b (suc a) q ∙ back starts 0 a j d) in
      one_read (suc v) j (four n p s t u w4) roots terms (is_four a b c v s t u w4 n p j x y z tv q o ov e f g d h) h r
  read_one says _ (suc (suc (suc (suc zero)))) _ _ n p none_read e f g w = absurd (omega (arith, w))
  read_one says _ (suc (suc (suc (suc zero)))) _ _ n p (one_read c _ u _ _ z o none_read) e f g w = absurd (omega (arith, w))
  read_one says _ (suc (suc (suc (suc zero)))) _ _ n p (one_read c _ u _ _ z o (one_read b _ t _ _ y q none_read)) e f g w = absurd (omega (arith, w))
  read_one says _ (suc (suc (suc (suc zero)))) _ _ n p (one_read c _ u _ _ z o (one_read b _ t _ _ y q (one_read a _ s _ _ x d none_read))) e f g w = absurd (omega (arith, w))
  read_one says m (suc (suc (suc (suc (suc k))))) roots terms n p r e f g w = absurd (few n k g)

  -- these nodes with these places stand from number m on
  abbrev StandsFrom : ℕ → List TreeNode → List Place → Type 0
  StandsFrom m ns ps = ((i : ℕ) → slice_get nodes (m + i) ≡ slice_get ns i) × ((i : ℕ) → slice_get places (m + i) ≡ slice_get ps i)

  at_first : {A : Type 0} (xs : List A) (m : ℕ) (y : A) (ys : List A) → ((i : ℕ) → slice_get xs (m + i) ≡ slice_get (y ∷ ys) i) → slice_get xs m ≡ Some y
  at_first xs m y ys h = let e : m ≡ m + 0 = omega arith in ap (slice_get xs) e ∙ h 0

  at_others : {A : Type 0} (xs : List A) (m : ℕ) (y : A) (ys : List A) → ((i : ℕ) → slice_get xs (m + i) ≡ slice_get (y ∷ ys) i) → (i : ℕ) → slice_get xs (suc m + i) ≡ slice_get ys i
  at_others xs m y ys h i = let e : suc m + i ≡ m + suc i = omega arith in ap (slice_get xs) e ∙ h (suc i)

  as_many : (m : ℕ) (roots : List ℕ) (terms : List Term) → AreRead m roots terms → length roots ≡ length terms
  as_many _ _ _ none_read = refl
  as_many _ _ _ (one_read i j t roots terms x b r) = ap suc (as_many j roots terms r)

  -- what comes of reading these nodes from number m on
  pub record IsRead (m : ℕ) (roots : List ℕ) (s : List Term) (ns : List TreeNode) (ps : List Place) : Type 0 where
    pub terms : List Term
    pub are : AreRead (m + length ns) (roots_behind m roots ns) terms
    pub read : reads s ns ps ≡ reverse terms

  read_all : Says → (m c : ℕ) (roots : List ℕ) (s : List Term) (ns : List TreeNode) (ps : List Place) → AreRead m roots s → StandsFrom m ns ps → length ns ≡ length ps → c ≡ length roots → HaveParts c ns → IsRead m roots s ns ps
  read_all says m c roots s [] ps r f l e w = let z : m ≡ m + 0 = omega arith in record { terms = s; are = subst (λ k. AreRead k roots s) z r; read = refl }
  read_all says m c roots s (n ∷ ns) [] r f l e w = absurd (omega (arith, l))
  read_all says m c roots s (n ∷ ns) (p ∷ ps) r f l e w =
      let many : length roots ≡ length s = as_many m roots s r in
      let enough : parts_of n ≤ length s = omega (arith, w.0, e, many) in
      let left : length (drop (parts_of n) roots) ≡ length roots - parts_of n = length-drop (parts_of n) roots in
      let behind : suc (c - parts_of n) ≡ suc (length (drop (parts_of n) roots)) = omega (arith, left, e) in
      let others : length ns ≡ length ps = omega (arith, l) in
      let rest : IsRead (suc m) (m ∷ drop (parts_of n) roots) (joined (parts_of n) n p s) ns ps =
      read_all says (suc m) (suc (c - parts_of n)) (m ∷ drop (parts_of n) roots) (joined (parts_of n) n p s) ns ps
      (read_one says m (parts_of n) roots s n p r (at_first nodes m n ns f.0) (at_first places m p ps f.1) refl enough)
      (at_others nodes m n ns f.0, at_others places m p ps f.1) others behind w.1 in
      let z : suc m + length ns ≡ m + suc (length ns) = omega arith in
      record { terms = rest.terms; are = subst (λ k. AreRead k (roots_behind (suc m) (m ∷ drop (parts_of n) roots) ns) rest.terms) z rest.are; read = rest.read }

  -- nodes are the roots of trees, in order
  pub data AreTrees : List ℕ → List Term → Type 0 where
    no_trees : AreTrees [] []
    more_trees : (i : ℕ) (t : Term) (is : List ℕ) (ts : List Term) → IsTree nodes places starts i t → AreTrees is ts → AreTrees (i ∷ is) (t ∷ ts)

  behind_trees : (is js : List ℕ) (ts us : List Term) → AreTrees is ts → AreTrees js us → AreTrees (is ++ js) (ts ++ us)
  behind_trees _ js _ us no_trees b = b
  behind_trees _ js _ us (more_trees i t is ts x a) b = more_trees i t (is ++ js) (ts ++ us) x (behind_trees is js ts us a b)

  read_trees : (m : ℕ) (roots : List ℕ) (terms : List Term) → AreRead m roots terms → AreTrees (reverse roots) (reverse terms)
  read_trees _ _ _ none_read = no_trees
  read_trees _ _ _ (one_read i j t roots terms x b r) =
      subst (λ is. AreTrees is (reverse (t ∷ terms))) (sym (reverse-append (i ∷ []) roots))
      (subst (λ ts. AreTrees (reverse roots ++ i ∷ []) ts) (sym (reverse-append (t ∷ []) terms))
      (behind_trees (reverse roots) (i ∷ []) (reverse terms) (t ∷ []) (read_trees j roots terms r) (more_trees i t [] [] x no_trees)))

-- The roots of a list of nodes are the roots of the trees that the list spells.
pub roots_are_trees : (nodes : List TreeNode) (places : List Place) → length nodes ≡ length places → HaveParts 0 nodes
    → AreTrees nodes places (starts_of nodes) (reverse (roots_behind 0 [] nodes)) (trees nodes places)
roots_are_trees nodes places l w =
    let same : (i : ℕ) → slice_get nodes (0 + i) ≡ slice_get nodes i = λ i. let z : 0 + i ≡ i = omega arith in ap (slice_get nodes) z in
    let same_places : (i : ℕ) → slice_get places (0 + i) ≡ slice_get places i = λ i. let z : 0 + i ≡ i = omega arith in ap (slice_get places) z in
    let r : IsRead nodes places (starts_of nodes) 0 [] [] nodes places = read_all nodes places (starts_of nodes) (says_starts nodes) 0 0 [] [] nodes places none_read (same, same_places) l refl w in
    subst (λ ts. AreTrees nodes places (starts_of nodes) (reverse (roots_behind 0 [] nodes)) ts) (sym r.read)
    (read_trees nodes places (starts_of nodes) (0 + length nodes) (roots_behind 0 [] nodes) r.terms r.are)
