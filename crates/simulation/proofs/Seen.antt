-- Laws of the passes that are seen.
use Rattle.std.proofs.Common.{◌≡◌, ℕ, zero, suc, List, [], ◌∷◌, ◌++◌, Option, Some, None, Bool, true, false, cond, refl, sym, ap, ◌∙◌, subst}
use Rattle.smlc_base.specs.declared.point.Point.{Point}
use Rattle.simulation.specs.Blocks.{IsPrefix}
use Rattle.simulation.specs.Runs.{Run, visible, listed, seen}
use Rattle.smlc_base.specs.Points.{is_label}

some_cond : (b : Bool) (p q : Point) → cond b (Some q) None ≡ Some p → Some q ≡ Some p
some_cond true p q e = e
some_cond false p q e = cc

pub visible_some : (labels : List Point) (o : Option Point) (p : Point) → visible labels o ≡ Some p → o ≡ Some p
visible_some labels None p e = e
visible_some labels (Some q) p e = some_cond (is_label labels q) p q e

true_cond : (b : Bool) (p q : Point) → cond b (Some q) None ≡ Some p → b ≡ true
true_cond true p q e = refl
true_cond false p q e = cc

pub visible_label : (labels : List Point) (o : Option Point) (p : Point) → visible labels o ≡ Some p → is_label labels p ≡ true
visible_label labels None p e = cc
visible_label labels (Some q) p e =
    let t = true_cond (is_label labels q) p q e in
    let s = some_cond (is_label labels q) p q e in
    let w : q ≡ p = cc in
    subst (λ x. is_label labels x ≡ true) w t

pub visible_of : (labels : List Point) (o : Option Point) (p : Point) → o ≡ Some p → is_label labels p ≡ true → visible labels o ≡ Some p
visible_of labels o p e t = ap (visible labels) e ∙ ap (λ b. cond b (Some p) None) t

-- the passes of these points, of a list of passes
pub only : List Point → List Point → List Point
only labels [] = []
only labels (p ∷ ps) = cond (is_label labels p) (p ∷ only labels ps) (only labels ps)

cond_append : (b : Bool) (p : Point) (xs ys : List Point) → cond b (p ∷ (xs ++ ys)) (xs ++ ys) ≡ cond b (p ∷ xs) xs ++ ys
cond_append true p xs ys = refl
cond_append false p xs ys = refl

pub only-append : (labels xs ys : List Point) → only labels (xs ++ ys) ≡ only labels xs ++ only labels ys
unfolding only
only-append labels [] ys = refl
only-append labels (p ∷ xs) ys =
    ap (λ l. cond (is_label labels p) (p ∷ l) l) (only-append labels xs ys)
    ∙ cond_append (is_label labels p) p (only labels xs) (only labels ys)

only_one : (labels : List Point) (p : Point) (b c : Bool) → is_label labels p ≡ c → (c ≡ true → b ≡ true) → only labels (listed (cond b (Some p) None)) ≡ listed (cond c (Some p) None)
unfolding only
only_one labels p true true e h = ap (λ t. cond t (p ∷ []) []) e
only_one labels p true false e h = ap (λ t. cond t (p ∷ []) []) e
only_one labels p false true e h = let f = h refl in cc
only_one labels p false false e h = refl

only_visible : (few more : List Point) → ((p : Point) → is_label few p ≡ true → is_label more p ≡ true) → (o : Option Point) → only few (listed (visible more o)) ≡ listed (visible few o)
unfolding only
only_visible few more h None = refl
only_visible few more h (Some p) = only_one few p (is_label more p) (is_label few p) refl (h p)

-- what fewer points see is found from what more points see
pub only-seen : (few more : List Point) → ((p : Point) → is_label few p ≡ true → is_label more p ≡ true) → (r : Run) (n : ℕ) → only few (seen more r n) ≡ seen few r n
unfolding only
only-seen few more h r zero = refl
only-seen few more h r (suc n) =
    only-append few (seen more r n) (listed (visible more (r.pass n)))
    ∙ ap (λ l. l ++ only few (listed (visible more (r.pass n)))) (only-seen few more h r n)
    ∙ ap (λ l. seen few r n ++ l) (only_visible few more h (r.pass n))

pub only_prefix : (labels xs ys : List Point) → IsPrefix xs ys → IsPrefix (only labels xs) (only labels ys)
only_prefix labels xs ys p =
    (only labels p.0, sym (only-append labels xs p.0) ∙ ap (only labels) p.1)
