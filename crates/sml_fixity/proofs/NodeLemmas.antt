-- One node more.
use Rattle.std.proofs.Common.{arith, ◌≡◌, ℕ, zero, suc, ◌^◌, ◌+◌, ◌-◌, ◌*◌, ◌<◌, ◌≤◌, ◌++◌, Bool, true, false, cond, max, nat_le, take, drop, get_or, reverse, append_assoc, Some, None, List, [], ◌∷◌, length, refl, sym, ◌∙◌, ap, subst}
use Rattle.std.proofs.lemmas.Bool.Decides.{nat_tests}
use Rattle.std.proofs.lemmas.List.{length-drop, reverse-append, take_all}
use Rattle.smlc_base.specs.declared.place.Place.{Place}
use Rattle.sml_tree.specs.declared.tree_node.TreeNode.{TreeNode}
use Rattle.sml_tree.specs.declared.tree_node.TreeNode.TheVariants as node
use Rattle.sml_tree.specs.Parts.{parts_of}
use Rattle.sml_tree.specs.Tree.{roots}
use Rattle.sml_syntax.specs.declared.forms.Made.{Made}
use Rattle.sml_tree.specs.Depth.{adds, depth_of, depths, greatest}
use Rattle.sml_fixity.specs.Nodes.{node_of, start_of, starts_of}
use Rattle.sml_fixity.proofs.ListLemmas.{drop_at, take_top, finished}

cut : {X : Type 0} (s ys : List X) (n k p q : ℕ) → ys ≡ take n s → n ≡ k - p → k ≡ length s → p ≡ q → ys ≡ take (length s - q) s
cut s ys n k p q e f g h = e ∙ ap (λ (n : ℕ). take n s) (let z : n ≡ length s - q = omega arith in z)

-- the roots
roots_some : (i : ℕ) (s numbers : List ℕ) (m : TreeNode) (o : List TreeNode) (b : Bool) → nat_le (parts_of m) (length s) ≡ b → cond b (roots (suc i) (i ∷ drop (parts_of m) s) o) None ≡ Some numbers → roots (suc i) (i ∷ drop (parts_of m) s) o ≡ Some numbers
roots_some i s numbers m o true e h = h
roots_some i s numbers m o false e h = cc

pub roots_next : (i n k p : ℕ) (s ys zs numbers : List ℕ) (nodes : List TreeNode) (d : TreeNode) → i < length nodes → ys ≡ take n s → n ≡ k - p → k ≡ length s → p ≡ parts_of (get_or nodes i d) → zs ≡ ys ++ i ∷ [] → roots i (reverse s) (drop i nodes) ≡ Some numbers → roots (i + 1) (reverse zs) (drop (i + 1) nodes) ≡ Some numbers
roots_next i n k p s ys zs numbers nodes d room a b c e g h =
    let m : TreeNode = get_or nodes i d in
    let t : roots i (reverse s) (m ∷ drop (i + 1) nodes) ≡ Some numbers = ap (roots i (reverse s)) (sym (drop_at nodes i d room)) ∙ h in
    let u = roots_some i (reverse s) numbers m (drop (i + 1) nodes) (nat_le (parts_of m) (length (reverse s))) refl t in
    let one : i + 1 ≡ suc i = omega arith in
    ap (λ (j : ℕ). roots j (reverse zs) (drop (i + 1) nodes)) one ∙ ap (λ (z : List ℕ). roots (suc i) z (drop (i + 1) nodes)) (sym (finished (parts_of m) s ys zs i (cut s ys n k p (parts_of m) a b c e) g)) ∙ u

-- where they begin
pub starts_next : (at : List Place) (end x : Place) (i n k p : ℕ) (s ys zs before after whole : List Place) (made : List Made) (d : Made) → i < length made → x ≡ start_of at end (reverse s) (get_or made i d) → ys ≡ take n s → n ≡ k - p → k ≡ length s → p ≡ parts_of (node_of (get_or made i d)) → zs ≡ ys ++ x ∷ [] → after ≡ before ++ x ∷ [] → before ++ starts_of at end (reverse s) (drop i made) ≡ whole → after ++ starts_of at end (reverse zs) (drop (i + 1) made) ≡ whole
starts_next at end x i n k p s ys zs before after whole made d room y a b c e g f h =
    let m : Made = get_or made i d in
    let rest : List Made = drop (i + 1) made in
    let stack : x ∷ drop (parts_of (node_of m)) (reverse s) ≡ reverse zs = finished (parts_of (node_of m)) s ys zs x (cut s ys n k p (parts_of (node_of m)) a b c e) g in
    let step : starts_of at end (reverse s) (drop i made) ≡ x ∷ starts_of at end (reverse zs) rest =
    ap (starts_of at end (reverse s)) (drop_at made i d room)
    ∙ ap (λ (x : Place). x ∷ starts_of at end (x ∷ drop (parts_of (node_of m)) (reverse s)) rest) (sym y)
    ∙ ap (λ (z : List Place). x ∷ starts_of at end z rest) stack in
    ap (λ z. z ++ starts_of at end (reverse zs) rest) f
    ∙ append_assoc before (x ∷ []) (starts_of at end (reverse zs) rest)
    ∙ ap (λ z. before ++ z) (sym step) ∙ h

-- the depths
greatest_snoc : (xs : List ℕ) (x : ℕ) → greatest (xs ++ x ∷ []) ≡ max (greatest xs) x
greatest_snoc [] x = omega arith
greatest_snoc (y ∷ xs) x = let h = greatest_snoc xs x in omega (arith, h)

pub greatest_reverse : (xs : List ℕ) → greatest (reverse xs) ≡ greatest xs
greatest_reverse [] = refl
greatest_reverse (x ∷ xs) = ap greatest (reverse-append (x ∷ []) xs) ∙ greatest_snoc (reverse xs) x ∙ (let h = greatest_reverse xs in omega (arith, h))

pub greatest_take : (n : ℕ) (xs : List ℕ) → greatest (take n xs) ≤ greatest xs
greatest_take n [] = ends n
  where
    ends : (n : ℕ) → greatest (take n []) ≤ greatest []
    ends zero = omega arith
    ends (suc n) = omega arith
greatest_take zero (x ∷ xs) = omega arith
greatest_take (suc n) (x ∷ xs) = let h = greatest_take n xs in omega (arith, h)

pub greatest_drop : (n : ℕ) (xs : List ℕ) → greatest (drop n xs) ≤ greatest xs
greatest_drop n [] = ends n
  where
    ends : (n : ℕ) → greatest (drop n []) ≤ greatest []
    ends zero = omega arith
    ends (suc n) = omega arith
greatest_drop zero (x ∷ xs) = omega arith
greatest_drop (suc n) (x ∷ xs) = let h = greatest_drop n xs in omega (arith, h)

adds_low : (m : TreeNode) → nat_le (adds m) 2 ≡ true
adds_low node.NoDecs = refl
adds_low _ = refl

depth_plain : (m : TreeNode) (ds : List ℕ) (n : ℕ) → adds m + greatest ds ≤ n → max (greatest ds) (2 + greatest ds) ≤ n → depth_of m ds ≤ n
depth_plain node.ParenHeadArgs [] n h k = h
depth_plain node.ParenHeadArgs (a ∷ ds) n h k = omega arith
depth_plain _ ds n h k = h

pub depth_small : (m : TreeNode) (ds : List ℕ) → depth_of m ds ≤ 2 + greatest ds
depth_small m ds =
    let low = adds_low m in
    let two : adds m ≤ 2 = grind (arith, nat_tests) in
    depth_plain m ds (2 + greatest ds) (omega (arith, two)) (omega arith)

-- the parts of the next phrase
top : (s : List ℕ) (from : ℕ) → take (length s - from) (drop from s) ≡ drop from s
top s from = let l = length-drop from s in take_all (length s - from) (drop from s) (omega (arith, l))

pub head_low : (n : ℕ) (xs : List ℕ) → greatest (reverse (take n xs)) ≤ greatest (reverse xs)
head_low n xs =
    let a = greatest_reverse (take n xs) in
    let b = greatest_take n xs in
    let c = greatest_reverse xs in
    omega (arith, a, b, c)

-- the same parts under another name
pub same_parts : (s t : List ℕ) (from x : ℕ) (m : TreeNode) → s ≡ t → x ≡ depth_of m (reverse (take (length s - from) (drop from s))) → x ≡ depth_of m (reverse (take (length t - from) (drop from t)))
same_parts s t from x m e h = h ∙ ap (λ (s : List ℕ). depth_of m (reverse (take (length s - from) (drop from s)))) e

pub parts_low : (s t : List ℕ) (from i size : ℕ) → s ≡ t → greatest t ≤ 2 * i → i < size → size < 2 ^ 63 → greatest (reverse (take (length s - from) (drop from s))) + 2 < 2 ^ 64
parts_low s t from i size e h k l =
    let a = greatest_reverse (take (length s - from) (drop from s)) in
    let b = greatest_take (length s - from) (drop from s) in
    let c = greatest_drop from s in
    let d : greatest s ≡ greatest t = ap greatest e in
    omega (arith, a, b, c, d, h, k, l)

pub depths_next : (i from k p x : ℕ) (s ys zs whole : List ℕ) (nodes : List TreeNode) (d : TreeNode) → i < length nodes → x ≡ depth_of (get_or nodes i d) (reverse (take (length s - from) (drop from s))) → ys ≡ take from s → from ≡ k - p → k ≡ length s → p ≡ parts_of (get_or nodes i d) → zs ≡ ys ++ x ∷ [] → depths (reverse s) (drop i nodes) ≡ whole → depths (reverse zs) (drop (i + 1) nodes) ≡ whole
depths_next i from k p x s ys zs whole nodes d room y a b c e g h =
    let m : TreeNode = get_or nodes i d in
    let rest : List TreeNode = drop (i + 1) nodes in
    let stack : x ∷ drop (parts_of m) (reverse s) ≡ reverse zs = finished (parts_of m) s ys zs x (cut s ys from k p (parts_of m) a b c e) g in
    let is_from : from ≡ length s - parts_of m = omega arith in
    let parts : take (parts_of m) (reverse s) ≡ reverse (take (length s - from) (drop from s)) = take_top (parts_of m) s ∙ ap (λ (n : ℕ). reverse (drop n s)) (sym is_from) ∙ ap reverse (sym (top s from)) in
    let depth : depth_of m (take (parts_of m) (reverse s)) ≡ x = ap (depth_of m) parts ∙ sym y in
    sym (
    ap (depths (reverse s)) (drop_at nodes i d room)
    ∙ ap (λ (x : ℕ). depths (x ∷ drop (parts_of m) (reverse s)) rest) depth
    ∙ ap (λ (z : List ℕ). depths z rest) stack
    ) ∙ h

pub depth_low : (i from x : ℕ) (s ys zs : List ℕ) (m : TreeNode) → x ≡ depth_of m (reverse (take (length s - from) (drop from s))) → ys ≡ take from s → zs ≡ ys ++ x ∷ [] → greatest s ≤ 2 * i → greatest zs ≤ 2 * (i + 1)
depth_low i from x s ys zs m y a g h =
    let t = depth_small m (reverse (take (length s - from) (drop from s))) in
    let u = greatest_reverse (take (length s - from) (drop from s)) in
    let b = greatest_take (length s - from) (drop from s) in
    let c = greatest_drop from s in
    let v = greatest_snoc ys x in
    let w : greatest ys ≤ greatest s = subst (λ (ys : List ℕ). greatest ys ≤ greatest s) (sym a) (greatest_take from s) in
    let z : greatest zs ≡ greatest (ys ++ x ∷ []) = ap greatest g in
    omega (arith, t, u, b, c, v, w, z, y, h)
