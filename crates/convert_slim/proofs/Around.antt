-- Where sites stand in earlier ones, the words around a point are those of the site around it, if no label of that is left.
use Rattle.std.proofs.Common.{◌≡◌, ℕ, zero, suc, ◌+◌, ◌<◌, ◌≤◌, Bool, true, false, cond, List, [], ◌∷◌, length, Option, Some, None, inl, inr, nat_lt, refl, ap, ◌∙◌, subst, arith}
use Rattle.std.proofs.lemmas.Bool.{ltb-true, ltb-false}
use Rattle.smlc_base.specs.declared.point.Point.{Point}
use Rattle.smlc_base.specs.declared.point.Site.{Site}
use Rattle.smlc_base.specs.Points.{is_point}
use Rattle.smlc_base.specs.SiteWords.{find_site, is_left, outward, around, site_words}
use Rattle.sml_tree.specs.Order.{rank}
use Rattle.simulation.specs.Blocks.{IsAmong}
use Rattle.simulation.proofs.Lists.{some_eq}
use Rattle.simulation.proofs.Nth.{point_eq}
use Rattle.cps_ir.specs.Slim.{IsOuter, SitesFit}

-- how many sites have a rank below k
abbrev below : ℕ → List Site → ℕ
below k [] = 0
below k (s ∷ ss) = cond (nat_lt (rank s.point) k) 1 0 + below k ss

below_all : (k : ℕ) (ss : List Site) → below k ss ≤ length ss
below_all k [] = omega arith
below_all k (s ∷ ss) = go (nat_lt (rank s.point) k) (below_all k ss)
  where
    go : (b : Bool) → below k ss ≤ length ss → cond b 1 0 + below k ss ≤ suc (length ss)
    go true h = omega (arith, h)
    go false h = omega (arith, h)

grows : (r j k m n : ℕ) → j ≤ k → m ≤ n → cond (nat_lt r j) 1 0 + m ≤ cond (nat_lt r k) 1 0 + n
grows r j k m n le h = go (nat_lt r j) (nat_lt r k) refl refl
  where
    go : (a b : Bool) → nat_lt r j ≡ a → nat_lt r k ≡ b → cond a 1 0 + m ≤ cond b 1 0 + n
    go true true e f = omega (arith, h)
    go true false e f = let low = ltb-true r j e in let high = ltb-false r k f in absurd (omega (arith, low, high, le))
    go false true e f = omega (arith, h)
    go false false e f = omega (arith, h)

below_more : (j k : ℕ) (ss : List Site) → j ≤ k → below j ss ≤ below k ss
below_more j k [] le = omega arith
below_more j k (s ∷ ss) le = grows (rank s.point) j k (below j ss) (below k ss) le (below_more j k ss le)

one_more : (r j k m n : ℕ) → j ≤ r → r < k → m ≤ n → suc (cond (nat_lt r j) 1 0 + m) ≤ cond (nat_lt r k) 1 0 + n
one_more r j k m n low high h = go (nat_lt r j) (nat_lt r k) refl refl
  where
    go : (a b : Bool) → nat_lt r j ≡ a → nat_lt r k ≡ b → suc (cond a 1 0 + m) ≤ cond b 1 0 + n
    go true b e f = let less = ltb-true r j e in absurd (omega (arith, less, low))
    go false true e f = omega (arith, h)
    go false false e f = let more = ltb-false r k f in absurd (omega (arith, more, high))

-- with a site between
below_one : (j k : ℕ) (ss : List Site) (s : Site) → IsAmong s ss → j ≤ rank s.point → rank s.point < k → suc (below j ss) ≤ below k ss
below_one j k [] s m low high = absurd m
below_one j k (x ∷ ss) s (inl e) low high =
    one_more (rank x.point) j k (below j ss) (below k ss) (subst (λ (y : Site). j ≤ rank y.point) e low) (subst (λ (y : Site). rank y.point < k) e high) (below_more j k ss (omega (arith, low, high)))
below_one j k (x ∷ ss) s (inr m) low high =
    let rest = below_one j k ss s m low high in
    let here = grows (rank x.point) j k 0 0 (omega (arith, low, high)) (omega arith) in
    omega (arith, rest, here)

site_found : (ss : List Site) (p : Point) (s : Site) → find_site ss p ≡ Some s → IsAmong s ss × (s.point ≡ p)
site_found [] p s e = absurd cc
site_found (x ∷ ss) p s e = go (is_point x.point p) refl e (site_found ss p s)
  where
    go : (b : Bool) → is_point x.point p ≡ b → cond b (Some x) (find_site ss p) ≡ Some s → (find_site ss p ≡ Some s → IsAmong s ss × (s.point ≡ p)) → IsAmong s (x ∷ ss) × (s.point ≡ p)
    go true f g later = some_eq (λ y. IsAmong y (x ∷ ss) × (y.point ≡ p)) x s g (inl refl, point_eq x.point p f)
    go false f g later = let r = later g in (inr r.0, r.1)

module _ (labels : List Point) (ss : List Site) (fit : SitesFit ss) where
  none_around : (m : ℕ) → around m labels ss None ≡ 0
  none_around zero = refl
  none_around (suc m) = refl

  no_site : (p : Point) (o : Option Site) → find_site ss p ≡ o → below (suc (rank p)) ss ≤ 0 → 0 ≡ outward (around 0 labels ss) o
  no_site p None e h = refl
  no_site p (Some s) e h =
      let r = site_found ss p s e in
      let same : rank s.point ≡ rank p = ap rank r.1 in
      let one : suc (below (rank s.point) ss) ≤ below (suc (rank p)) ss = below_one (rank s.point) (suc (rank p)) ss s r.0 (omega arith) (omega (arith, same)) in
      absurd (omega (arith, one, h))

  by_left : (b : Bool) (m n : ℕ) → m ≡ n → cond b 0 m ≡ cond b 0 n
  by_left b m n e = ap (λ k. cond b 0 k) e

  nothing : (b : Bool) (m : ℕ) → 0 ≡ m → 0 ≡ cond b 0 m
  nothing true m e = refl
  nothing false m e = e

  -- more turns than there are earlier sites come to the same
  settled : (m : ℕ) (p : Point) → below (suc (rank p)) ss ≤ m → around m labels ss (Some p) ≡ around (suc m) labels ss (Some p)
  settled zero p h =
      nothing (is_left labels p) (outward (around 0 labels ss) (find_site ss p)) (no_site p (find_site ss p) refl h)
  settled (suc m) p h =
      by_left (is_left labels p) (outward (around m labels ss) (find_site ss p)) (outward (around (suc m) labels ss) (find_site ss p)) (at_site (find_site ss p) refl (λ q few. settled m q few))
    where
      at_outer : (s : Site) → IsAmong s ss → s.point ≡ p → (o : Option Point) → s.outer ≡ o → ((q : Point) → below (suc (rank q)) ss ≤ m → around m labels ss (Some q) ≡ around (suc m) labels ss (Some q)) → around m labels ss o ≡ around (suc m) labels ss o
      at_outer s among same None e again = none_around m
      at_outer s among same (Some q) e again =
          let outer : IsOuter ss s.point q = fit.outer s q among e in
          let earlier : rank q < rank s.point = outer.earlier in
          let at : rank s.point ≡ rank p = ap rank same in
          let one : suc (below (suc (rank q)) ss) ≤ below (suc (rank p)) ss = below_one (suc (rank q)) (suc (rank p)) ss s among earlier (omega (arith, at)) in
          again q (omega (arith, one, h))

      at_site : (o : Option Site) → find_site ss p ≡ o → ((q : Point) → below (suc (rank q)) ss ≤ m → around m labels ss (Some q) ≡ around (suc m) labels ss (Some q)) → outward (around m labels ss) o ≡ outward (around (suc m) labels ss) o
      at_site None e again = refl
      at_site (Some s) e again = let r = site_found ss p s e in ap (λ k. s.words + k) (at_outer s r.0 r.1 s.outer refl again)

  pub open_words : (p : Point) → is_left labels p ≡ false → around (length ss) labels ss (Some p) ≡ site_words labels ss p
  open_words p e =
      settled (length ss) p (below_all (suc (rank p)) ss) ∙ ap (λ b. cond b 0 (outward (around (length ss) labels ss) (find_site ss p))) e
