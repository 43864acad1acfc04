-- The trees of a list of nodes stand as declarations exactly if the list is shaped so.
use Rattle.std.proofs.Common.{◌≡◌, ◌≤◌, ℕ, zero, suc, ◌-◌, Bool, true, false, ◌&&◌, cond, nat_le, List, [], ◌∷◌, length, map, take, drop, reverse, Some, None, refl, sym, ap, ◌∙◌, arith}
use Rattle.std.specs.List.{list_all}
use Rattle.std.proofs.lemmas.Bool.Decides.{nat_tests}
use Rattle.std.proofs.lemmas.List.{length-drop, length-map, reverse-append}
use Rattle.std.proofs.lemmas.List.Folds.{list_all-append}
use Rattle.smlc_base.specs.declared.place.Place.{Place}
use Rattle.sml_tree.specs.declared.tree_node.TreeNode.{TreeNode}
use Rattle.sml_tree.specs.Kinds.{PartKind, Dec, fit, has, may_stand, shaped, stands_as, wanted}
use Rattle.sml_tree.specs.Parts.{parts_of}
use Rattle.sml_tree.specs.Tree.{roots}
use Rattle.sml_expansion.specs.Kinds.{is_a}
use Rattle.sml_expansion.specs.Terms.{Term, one, two, three, four, joined, reads, trees}
use Rattle.sml_expansion.proofs.TreeLemmas.{HaveParts, few}

-- in a forest each node finds its parts
enough_parts : (s : List ℕ) (i : ℕ) (n : TreeNode) (nodes : List TreeNode) (decs : List ℕ) (b : Bool) → nat_le (parts_of n) (length s) ≡ b → cond b (roots (suc i) (i ∷ drop (parts_of n) s) nodes) None ≡ Some decs → (parts_of n ≤ length s) × (roots (suc i) (i ∷ drop (parts_of n) s) nodes ≡ Some decs)
enough_parts s i n nodes decs true e h = let l : parts_of n ≤ length s = grind (arith, nat_tests) in (l, h)
enough_parts s i n nodes decs false e h = cc

pub forest_parts : (c i : ℕ) (s : List ℕ) (nodes : List TreeNode) (decs : List ℕ) → c ≡ length s → roots i s nodes ≡ Some decs → HaveParts c nodes
forest_parts c i s [] decs e h = tt
forest_parts c i s (n ∷ nodes) decs e h =
    let (l, r) = enough_parts s i n nodes decs (nat_le (parts_of n) (length s)) refl h in
    let d : length (drop (parts_of n) s) ≡ length s - parts_of n = length-drop (parts_of n) s in
    let f : suc (c - parts_of n) ≡ suc (length (drop (parts_of n) s)) = omega (arith, d, e) in
    (omega (arith, l, e), forest_parts (suc (c - parts_of n)) (suc i) (i ∷ drop (parts_of n) s) nodes decs f r)

-- one more node
joined_kinds : (k : ℕ) (n : TreeNode) (p : Place) (s : List Term) → parts_of n ≡ k → k ≤ length s → map is_a (joined k n p s) ≡ may_stand n (reverse (take k (map is_a s))) ∷ drop k (map is_a s)
joined_kinds zero n p s e h = refl
joined_kinds (suc zero) n p [] e h = absurd (omega (arith, h))
joined_kinds (suc zero) n p (a ∷ s) e h = refl
joined_kinds (suc (suc zero)) n p [] e h = absurd (omega (arith, h))
joined_kinds (suc (suc zero)) n p (b ∷ []) e h = absurd (omega (arith, h))
joined_kinds (suc (suc zero)) n p (b ∷ a ∷ s) e h = refl
joined_kinds (suc (suc (suc zero))) n p [] e h = absurd (omega (arith, h))
joined_kinds (suc (suc (suc zero))) n p (c ∷ []) e h = absurd (omega (arith, h))
joined_kinds (suc (suc (suc zero))) n p (c ∷ b ∷ []) e h = absurd (omega (arith, h))
joined_kinds (suc (suc (suc zero))) n p (c ∷ b ∷ a ∷ s) e h = refl
joined_kinds (suc (suc (suc (suc zero)))) n p [] e h = absurd (omega (arith, h))
joined_kinds (suc (suc (suc (suc zero)))) n p (d ∷ []) e h = absurd (omega (arith, h))
joined_kinds (suc (suc (suc (suc zero)))) n p (d ∷ c ∷ []) e h = absurd (omega (arith, h))
joined_kinds (suc (suc (suc (suc zero)))) n p (d ∷ c ∷ b ∷ []) e h = absurd (omega (arith, h))
joined_kinds (suc (suc (suc (suc zero)))) n p (d ∷ c ∷ b ∷ a ∷ s) e h = refl
joined_kinds (suc (suc (suc (suc (suc k))))) n p s e h = absurd (few n k e)

joined_length : (k : ℕ) (n : TreeNode) (p : Place) (s : List Term) → parts_of n ≡ k → k ≤ length s → length (joined k n p s) ≡ suc (length s - k)
joined_length k n p s e h =
    let a : length (map is_a (joined k n p s)) ≡ length (joined k n p s) = length-map (joined k n p s) is_a in
    let b : length (map is_a (joined k n p s)) ≡ length (may_stand n (reverse (take k (map is_a s))) ∷ drop k (map is_a s)) = ap length (joined_kinds k n p s e h) in
    let c : length (drop k (map is_a s)) ≡ length (map is_a s) - k = length-drop k (map is_a s) in
    let d : length (map is_a s) ≡ length s = length-map s is_a in
    omega (arith, a, b, c, d)

-- the last first or in order
all_turned : (test : Term → Bool) (s : List Term) → list_all test (reverse s) ≡ list_all test s
all_turned test [] = refl
all_turned test (t ∷ s) =
    ap (list_all test) (reverse-append (t ∷ []) s)
    ∙ list_all-append test (reverse s) (t ∷ [])
    ∙ ap (λ b. b && list_all test (t ∷ [])) (all_turned test s)
    ∙ turn (list_all test s) (test t)
  where
    turn : (b c : Bool) → b && (c && true) ≡ c && b
    turn true true = refl
    turn true false = refl
    turn false true = refl
    turn false false = refl

all_of : (s : List Term) → list_all (λ p. p Dec) (map is_a s) ≡ list_all (λ t. is_a t Dec) s
all_of [] = refl
all_of (t ∷ s) = ap (λ b. is_a t Dec && b) (all_of s)

read_kinds : (c : ℕ) (s : List Term) (nodes : List TreeNode) (places : List Place) → length nodes ≡ length places → c ≡ length s → HaveParts c nodes → shaped (map is_a s) nodes ≡ list_all (λ t. is_a t Dec) (reads s nodes places)
read_kinds c s [] places l e w = all_of s ∙ sym (all_turned (λ t. is_a t Dec) s)
read_kinds c s (n ∷ nodes) [] l e w = absurd (omega (arith, l))
read_kinds c s (n ∷ nodes) (p ∷ places) l e w =
    let room : parts_of n ≤ length s = omega (arith, w.0, e) in
    let others : length nodes ≡ length places = omega (arith, l) in
    let many : length (joined (parts_of n) n p s) ≡ suc (length s - parts_of n) = joined_length (parts_of n) n p s refl room in
    let behind : suc (c - parts_of n) ≡ length (joined (parts_of n) n p s) = omega (arith, many, e) in
    ap (λ (z : List (PartKind → Bool)). shaped z nodes) (sym (joined_kinds (parts_of n) n p s refl room))
    ∙ read_kinds (suc (c - parts_of n)) (joined (parts_of n) n p s) nodes places others behind w.1

-- a list of nodes is shaped exactly if each of its trees stands as a declaration
pub shaped_trees : (nodes : List TreeNode) (places : List Place) (decs : List ℕ) → length places ≡ length nodes → roots 0 [] nodes ≡ Some decs → shaped [] nodes ≡ list_all (λ t. is_a t Dec) (trees nodes places)
shaped_trees nodes places decs l h = read_kinds 0 [] nodes places (sym l) refl (forest_parts 0 0 [] nodes decs refl h)

-- The parts of a tree that stands as a kind stand as the kinds that are wanted there.
and_parts : (b c : Bool) → b && c ≡ true → (b ≡ true) × (c ≡ true)
and_parts true c e = (refl, e)
and_parts false c e = cc

fits : (n : TreeNode) (k : PartKind) (kinds : List PartKind) (parts : List (PartKind → Bool)) → wanted k n ≡ kinds → may_stand n parts k ≡ true → fit kinds parts ≡ true
fits n k kinds parts e h = ap (λ (kinds : List PartKind). fit kinds parts) (sym e) ∙ (and_parts (has (stands_as n) k) (fit (wanted k n) parts) h).1

pub one_part : (n : TreeNode) (p : Place) (a : Term) (k x : PartKind) → wanted k n ≡ x ∷ [] → is_a (one n p a) k ≡ true → is_a a x ≡ true
one_part n p a k x e h = let f = fits n k (x ∷ []) (is_a a ∷ []) e h in (and_parts (is_a a x) true f).0

pub two_parts : (n : TreeNode) (p : Place) (a b : Term) (k x y : PartKind) → wanted k n ≡ x ∷ y ∷ [] → is_a (two n p a b) k ≡ true → (is_a a x ≡ true) × (is_a b y ≡ true)
two_parts n p a b k x y e h =
    let f = fits n k (x ∷ y ∷ []) (is_a a ∷ is_a b ∷ []) e h in
    let (u, g) = and_parts (is_a a x) (is_a b y && true) f in
    (u, (and_parts (is_a b y) true g).0)

pub three_parts : (n : TreeNode) (p : Place) (a b c : Term) (k x y z : PartKind) → wanted k n ≡ x ∷ y ∷ z ∷ [] → is_a (three n p a b c) k ≡ true → (is_a a x ≡ true) × (is_a b y ≡ true) × (is_a c z ≡ true)
three_parts n p a b c k x y z e h =
    let f = fits n k (x ∷ y ∷ z ∷ []) (is_a a ∷ is_a b ∷ is_a c ∷ []) e h in
    let (u, g) = and_parts (is_a a x) (is_a b y && (is_a c z && true)) f in
    let (v, i) = and_parts (is_a b y) (is_a c z && true) g in
    (u, v, (and_parts (is_a c z) true i).0)

pub four_parts : (n : TreeNode) (p : Place) (a b c d : Term) (k x y z w : PartKind) → wanted k n ≡ x ∷ y ∷ z ∷ w ∷ [] → is_a (four n p a b c d) k ≡ true → (is_a a x ≡ true) × (is_a b y ≡ true) × (is_a c z ≡ true) × (is_a d w ≡ true)
four_parts n p a b c d k x y z w e h =
    let f = fits n k (x ∷ y ∷ z ∷ w ∷ []) (is_a a ∷ is_a b ∷ is_a c ∷ is_a d ∷ []) e h in
    let (u, g) = and_parts (is_a a x) (is_a b y && (is_a c z && (is_a d w && true))) f in
    let (v, i) = and_parts (is_a b y) (is_a c z && (is_a d w && true)) g in
    let (t, j) = and_parts (is_a c z) (is_a d w && true) i in
    (u, v, t, (and_parts (is_a d w) true j).0)
