-- Where fewer labels are left, a point has at least as many site words.
use Rattle.std.proofs.Common.{◌≡◌, ℕ, zero, suc, ◌≤◌, List, length, Option, Some, None, Bool, true, false, cond, ◌||◌, refl, arith}
use Rattle.smlc_base.specs.declared.point.Point.{Point}
use Rattle.smlc_base.specs.declared.point.PointKind.{PointKind}
use Rattle.smlc_base.specs.declared.point.PointKind.TheVariants as kind
use Rattle.smlc_base.specs.declared.point.Site.{Site}
use Rattle.smlc_base.specs.Points.{is_label}
use Rattle.smlc_base.specs.SiteWords.{find_site, handle_left, is_left, outward, around, site_words}
use Rattle.cps_ir.specs.Slim.{most_held}

module _ (few more : List Point) (fewer : (p : Point) → is_label few p ≡ true → is_label more p ≡ true) where
  handle_fewer : (i : ℕ) (k : PointKind) → handle_left few i k ≡ true → handle_left more i k ≡ true
  handle_fewer i kind.Caught h = fewer (record { node = i; kind = kind.Popped }) h
  handle_fewer i kind.Fn h = h
  handle_fewer i kind.Ret h = h
  handle_fewer i kind.Popped h = h
  handle_fewer i kind.Eq h = h

  either : (a b c d : Bool) → (a ≡ true → c ≡ true) → (b ≡ true → d ≡ true) → (a || b) ≡ true → (c || d) ≡ true
  either a b true d f g h = refl
  either true b false d f g h = absurd (let e = f refl in cc)
  either false b false d f g h = g h

  left_fewer : (p : Point) → is_left few p ≡ true → is_left more p ≡ true
  left_fewer p h =
      either (is_label few p) (handle_left few p.node p.kind) (is_label more p) (handle_left more p.node p.kind) (fewer p) (handle_fewer p.node p.kind) h

  outward_more : (f g : Option Point → ℕ) → ((o : Option Point) → f o ≤ g o) → (s : Option Site) → outward f s ≤ outward g s
  outward_more f g h None = omega arith
  outward_more f g h (Some s) = let k = h s.outer in omega (arith, k)

  ended : (a b : Bool) (m n : ℕ) → (a ≡ true → b ≡ true) → m ≤ n → cond b 0 m ≤ cond a 0 n
  ended a true m n h k = omega arith
  ended true false m n h k = absurd (let e = h refl in cc)
  ended false false m n h k = k

  around_more : (n : ℕ) (ss : List Site) (o : Option Point) → around n more ss o ≤ around n few ss o
  around_more zero ss o = omega arith
  around_more (suc n) ss None = omega arith
  around_more (suc n) ss (Some p) =
      ended (is_left few p) (is_left more p) (outward (around n more ss) (find_site ss p)) (outward (around n few ss) (find_site ss p)) (left_fewer p)
      (outward_more (around n more ss) (around n few ss) (around_more n ss) (find_site ss p))

  pub words_more : (ss : List Site) (p : Point) → site_words more ss p ≤ site_words few ss p
  words_more ss p = outward_more (around (length ss) more ss) (around (length ss) few ss) (around_more (length ss) ss) (find_site ss p)

pub most_more : (k : PointKind) (m n : ℕ) → m ≤ n → most_held k m ≤ most_held k n
most_more kind.Fn m n h = omega (arith, h)
most_more kind.Ret m n h = omega (arith, h)
most_more kind.Caught m n h = h
most_more kind.Popped m n h = omega arith
most_more kind.Eq m n h = omega arith
