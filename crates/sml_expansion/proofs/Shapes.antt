-- A tree by the node at its root, and where its parts are.
use Rattle.std.proofs.Common.{◌≡◌, ◌≢◌, ◌<◌, ◌≤◌, ℕ, zero, suc, ◌-◌, Bool, true, false, cond, List, [], ◌∷◌, Option, Some, None, get_or, slice_get, refl, sym, ap, ◌∙◌, subst, arith, rules}
use Rattle.std.specs.Prelude.{nat_le, ◌&&◌}
use Rattle.std.proofs.lemmas.Option.{get_or_from_slice_get}
use Rattle.smlc_base.specs.declared.place.Place.{Place}
use Rattle.sml_tree.specs.declared.tree_node.TreeNode.{TreeNode}
use Rattle.sml_tree.specs.declared.tree_node.TreeNode.TheVariants as node
use Rattle.sml_tree.specs.Parts.{parts_of}
use Rattle.sml_tree.specs.Tree.{roots}
use Rattle.sml_tree.specs.Width.{is_user}
use Rattle.sml_expansion.specs.Terms.{Term, leaf, one, two, three, four, node_of, place_at}
use Rattle.sml_expansion.specs.Starts.{starts_of, is_leaf, is_one, is_two, is_three, is_four}
use Rattle.sml_expansion.specs.Scopes.{key_of, is_long, ident}
use Rattle.sml_expansion.specs.Sources.{Source, IsAt, node_at}

at_root : (s : Source) (i : ℕ) (n : TreeNode) → slice_get s.nodes i ≡ Some n → node_at s i ≡ n
at_root s i n e = get_or_from_slice_get s.nodes i n node.NoDecs e

-- the node at the root
pub node_is : (s : Source) (i : ℕ) (t : Term) → IsAt s i t → node_at s i ≡ node_of t
node_is s _ _ (is_leaf i n p g _ _ _) = at_root s i n g
node_is s _ _ (is_one a u n p j _ g _ _ _ _) = at_root s (suc a) n g
node_is s _ _ (is_two a b u v n p j _ _ _ g _ _ _ _) = at_root s (suc b) n g
node_is s _ _ (is_three a b c u v w n p j _ _ _ _ _ g _ _ _ _) = at_root s (suc c) n g
node_is s _ _ (is_four a b c d u v w x n p j _ _ _ _ _ _ _ g _ _ _ _) = at_root s (suc d) n g

-- how many parts a tree has
abbrev parts_in : Term → ℕ
parts_in (leaf n p) = 0
parts_in (one n p a) = 1
parts_in (two n p a b) = 2
parts_in (three n p a b c) = 3
parts_in (four n p a b c d) = 4

as_many : (s : Source) (i : ℕ) (t : Term) → IsAt s i t → parts_of (node_of t) ≡ parts_in t
as_many s _ _ (is_leaf i n p _ _ k _) = k
as_many s _ _ (is_one a u n p j _ _ _ k _ _) = k
as_many s _ _ (is_two a b u v n p j _ _ _ _ _ k _ _) = k
as_many s _ _ (is_three a b c u v w n p j _ _ _ _ _ _ _ k _ _) = k
as_many s _ _ (is_four a b c d u v w x n p j _ _ _ _ _ _ _ _ _ k _ _) = k

-- the node, and how many parts the tree has by it
rooted : (s : Source) (i : ℕ) (t : Term) (n : TreeNode) → IsAt s i t → node_at s i ≡ n → node_of t ≡ n
rooted s i t n h e = sym (node_is s i t h) ∙ e

counted : (s : Source) (i : ℕ) (t : Term) (n : TreeNode) (k : ℕ) → IsAt s i t → node_at s i ≡ n → parts_of n ≡ k → parts_in t ≡ k
counted s i t n k h e w = sym (as_many s i t h) ∙ ap parts_of (rooted s i t n h e) ∙ w

-- What holds of each tree with a node holds of the tree at a root that is this node.
pub as_leaf : (s : Source) (i : ℕ) (t : Term) (n : TreeNode) → IsAt s i t → node_at s i ≡ n → parts_of n ≡ 0 → (P : Term → Type 0) → ((p : Place) → IsAt s i (leaf n p) → P (leaf n p)) → P t
as_leaf s i (leaf m p) n h e w P k = subst (λ o. IsAt s i (leaf o p) → P (leaf o p)) (sym (rooted s i (leaf m p) n h e)) (k p) h
as_leaf s i (one m p a) n h e w P k = absurd (omega (arith, counted s i (one m p a) n 0 h e w))
as_leaf s i (two m p a b) n h e w P k = absurd (omega (arith, counted s i (two m p a b) n 0 h e w))
as_leaf s i (three m p a b c) n h e w P k = absurd (omega (arith, counted s i (three m p a b c) n 0 h e w))
as_leaf s i (four m p a b c d) n h e w P k = absurd (omega (arith, counted s i (four m p a b c d) n 0 h e w))

pub as_one : (s : Source) (i : ℕ) (t : Term) (n : TreeNode) → IsAt s i t → node_at s i ≡ n → parts_of n ≡ 1 → (P : Term → Type 0) → ((p : Place) (a : Term) → IsAt s i (one n p a) → P (one n p a)) → P t
as_one s i (one m p a) n h e w P k = subst (λ o. IsAt s i (one o p a) → P (one o p a)) (sym (rooted s i (one m p a) n h e)) (k p a) h
as_one s i (leaf m p) n h e w P k = absurd (omega (arith, counted s i (leaf m p) n 1 h e w))
as_one s i (two m p a b) n h e w P k = absurd (omega (arith, counted s i (two m p a b) n 1 h e w))
as_one s i (three m p a b c) n h e w P k = absurd (omega (arith, counted s i (three m p a b c) n 1 h e w))
as_one s i (four m p a b c d) n h e w P k = absurd (omega (arith, counted s i (four m p a b c d) n 1 h e w))

pub as_two : (s : Source) (i : ℕ) (t : Term) (n : TreeNode) → IsAt s i t → node_at s i ≡ n → parts_of n ≡ 2 → (P : Term → Type 0) → ((p : Place) (a b : Term) → IsAt s i (two n p a b) → P (two n p a b)) → P t
as_two s i (two m p a b) n h e w P k = subst (λ o. IsAt s i (two o p a b) → P (two o p a b)) (sym (rooted s i (two m p a b) n h e)) (k p a b) h
as_two s i (leaf m p) n h e w P k = absurd (omega (arith, counted s i (leaf m p) n 2 h e w))
as_two s i (one m p a) n h e w P k = absurd (omega (arith, counted s i (one m p a) n 2 h e w))
as_two s i (three m p a b c) n h e w P k = absurd (omega (arith, counted s i (three m p a b c) n 2 h e w))
as_two s i (four m p a b c d) n h e w P k = absurd (omega (arith, counted s i (four m p a b c d) n 2 h e w))

pub as_three : (s : Source) (i : ℕ) (t : Term) (n : TreeNode) → IsAt s i t → node_at s i ≡ n → parts_of n ≡ 3 → (P : Term → Type 0) → ((p : Place) (a b c : Term) → IsAt s i (three n p a b c) → P (three n p a b c)) → P t
as_three s i (three m p a b c) n h e w P k = subst (λ o. IsAt s i (three o p a b c) → P (three o p a b c)) (sym (rooted s i (three m p a b c) n h e)) (k p a b c) h
as_three s i (leaf m p) n h e w P k = absurd (omega (arith, counted s i (leaf m p) n 3 h e w))
as_three s i (one m p a) n h e w P k = absurd (omega (arith, counted s i (one m p a) n 3 h e w))
as_three s i (two m p a b) n h e w P k = absurd (omega (arith, counted s i (two m p a b) n 3 h e w))
as_three s i (four m p a b c d) n h e w P k = absurd (omega (arith, counted s i (four m p a b c d) n 3 h e w))

pub as_four : (s : Source) (i : ℕ) (t : Term) (n : TreeNode) → IsAt s i t → node_at s i ≡ n → parts_of n ≡ 4 → (P : Term → Type 0) → ((p : Place) (a b c d : Term) → IsAt s i (four n p a b c d) → P (four n p a b c d)) → P t
as_four s i (four m p a b c d) n h e w P k = subst (λ o. IsAt s i (four o p a b c d) → P (four o p a b c d)) (sym (rooted s i (four m p a b c d) n h e)) (k p a b c d) h
as_four s i (leaf m p) n h e w P k = absurd (omega (arith, counted s i (leaf m p) n 4 h e w))
as_four s i (one m p a) n h e w P k = absurd (omega (arith, counted s i (one m p a) n 4 h e w))
as_four s i (two m p a b) n h e w P k = absurd (omega (arith, counted s i (two m p a b) n 4 h e w))
as_four s i (three m p a b c) n h e w P k = absurd (omega (arith, counted s i (three m p a b c) n 4 h e w))

-- The first node has no parts.
holds : (b : Bool) (x : Option (List ℕ)) (y : List ℕ) → cond b x None ≡ Some y → b ≡ true
holds true x y e = refl
holds false x y e = cc

not_first : (nodes : List TreeNode) (decs : List ℕ) (i k : ℕ) → roots 0 [] nodes ≡ Some decs → parts_of (get_or nodes i node.NoDecs) ≡ suc k → 0 < i
not_first nodes decs (suc i) k r e = omega arith
not_first [] decs zero k r e = absurd (omega (arith, e))
not_first (m ∷ nodes) decs zero k r e =
    let h : nat_le (parts_of m) 0 ≡ true = holds (nat_le (parts_of m) 0) _ decs r in
    let l : parts_of m ≤ 0 = search rules in
    absurd (omega (arith, e, l))

pub not_first_at : (s : Source) (nodes : List TreeNode) (decs : List ℕ) (i k : ℕ) → nodes ≡ s.nodes → roots 0 [] nodes ≡ Some decs → parts_of (node_at s i) ≡ suc k → 0 < i
not_first_at s nodes decs i k same r e = not_first nodes decs i k r (ap (λ (ns : List TreeNode). parts_of (get_or ns i node.NoDecs)) same ∙ e)

-- Where the parts of three and of four are.
third : (starts : List ℕ) (c k : ℕ) → k ≡ suc c - 1 → k ≡ c
third starts c k e = omega (arith, e)

on_left : (starts : List ℕ) (b c k j : ℕ) → k ≡ c → slice_get starts c ≡ Some (suc b) → j ≡ get_or starts k 0 - 1 → j ≡ b
on_left starts b c k j e f g =
    let h : get_or starts k 0 ≡ suc b = ap (λ x. get_or starts x 0) e ∙ get_or_from_slice_get starts c (suc b) 0 f in
    omega (arith, g, h)

pub three_parts : (s : Source) (at : ℕ) (n : TreeNode) (p : Place) (a b c : Term) (i j k : ℕ) → k ≡ at - 1 → j ≡ get_or (starts_of s.nodes) k 0 - 1 → i ≡ get_or (starts_of s.nodes) j 0 - 1
    → IsAt s at (three n p a b c) → IsAt s i a × IsAt s j b × IsAt s k c
three_parts s _ n p a b c i j k e f g (is_three x y z _ _ _ _ _ q ha hb hc sb sc _ _ _ _ _) =
    let at_z : k ≡ z = third (starts_of s.nodes) z k e in
    let at_y : j ≡ y = on_left (starts_of s.nodes) y z k j at_z sc f in
    let at_x : i ≡ x = on_left (starts_of s.nodes) x y j i at_y sb g in
    (subst (λ m. IsAt s m a) (sym at_x) ha, subst (λ m. IsAt s m b) (sym at_y) hb, subst (λ m. IsAt s m c) (sym at_z) hc)

pub four_parts : (s : Source) (at : ℕ) (n : TreeNode) (p : Place) (a b c d : Term) (i j k l : ℕ) → l ≡ at - 1 → k ≡ get_or (starts_of s.nodes) l 0 - 1 → j ≡ get_or (starts_of s.nodes) k 0 - 1 → i ≡ get_or (starts_of s.nodes) j 0 - 1
    → IsAt s at (four n p a b c d) → IsAt s i a × IsAt s j b × IsAt s k c × IsAt s l d
four_parts s _ n p a b c d i j k l e f g h (is_four w x y z _ _ _ _ _ _ q ha hb hc hd sb sc sd _ _ _ _ _) =
    let at_z : l ≡ z = third (starts_of s.nodes) z l e in
    let at_y : k ≡ y = on_left (starts_of s.nodes) y z l k at_z sd f in
    let at_x : j ≡ x = on_left (starts_of s.nodes) x y k j at_y sc g in
    let at_w : i ≡ w = on_left (starts_of s.nodes) w x j i at_x sb h in
    (subst (λ m. IsAt s m a) (sym at_w) ha, subst (λ m. IsAt s m b) (sym at_x) hb, subst (λ m. IsAt s m c) (sym at_y) hc, subst (λ m. IsAt s m d) (sym at_z) hd)

-- The identifier at a tree whose node is no `op`.
plain_one : (names : List (List ℕ)) (n : TreeNode) (p : Place) (a : Term) → n ≢ node.Op → ident names (one n p a) ≡ record { key = key_of names n; long = is_long n && is_user p; place = p }
plain_one names node.Op p a h = absurd (h refl)
plain_one names _ p a h = refl

plain : (names : List (List ℕ)) (t : Term) → node_of t ≢ node.Op → ident names t ≡ record { key = key_of names (node_of t); long = is_long (node_of t) && is_user (place_at t); place = place_at t }
plain names (leaf n p) h = refl
plain names (one n p a) h = plain_one names n p a h
plain names (two n p a b) h = refl
plain names (three n p a b c) h = refl
plain names (four n p a b c d) h = refl

pub ident_is : (s : Source) (i : ℕ) (t : Term) (n : TreeNode) (k : ℕ) (l : Bool) (p : Place) → IsAt s i t → n ≡ node_at s i → n ≢ node.Op → k ≡ key_of s.names n → l ≡ (is_long n && is_user p) → p ≡ place_at t
    → ident s.names t ≡ record { key = k; long = l; place = p }
ident_is s i t n k l p h e other kn ln pn =
    let same : node_of t ≡ n = sym (node_is s i t h) ∙ sym e in
    let not_op : node_of t ≢ node.Op = subst (λ m. m ≢ node.Op) (sym same) other in
    let at : ident s.names t ≡ record { key = key_of s.names (node_of t); long = is_long (node_of t) && is_user (place_at t); place = place_at t } = plain s.names t not_op in
    let kt : k ≡ key_of s.names (node_of t) = kn ∙ ap (key_of s.names) (sym same) in
    let lt : l ≡ (is_long (node_of t) && is_user (place_at t)) = ln ∙ ap (λ m. is_long m && is_user p) (sym same) ∙ ap (λ q. is_long (node_of t) && is_user q) pn in
    cc
