-- Labels and sites by rank, and the words outward.
use Rattle.std.proofs.Common.{◌≡◌, ℕ, suc, ◌+◌, ◌-◌, ◌<◌, ◌≤◌, Bool, true, false, cond, List, [], ◌∷◌, Option, Some, None, length, drop, refl, sym, ap, ◌∙◌, arith}
use Rattle.std.specs.Prelude.{nat_eq, ◌||◌, slice_get, slice_index_or}
use Rattle.std.specs.Ordering.{nat_cmp}
use Rattle.std.specs.Cmp.{unsigned_tied}
use Rattle.std.specs.BTreeMap.{BTreeMap, get, is_at, IsEmpty}
use Rattle.std.specs.Map.{lookup}
use Rattle.std.proofs.Math.Seq.{drop-cons}
use Rattle.std.proofs.lemmas.Bool.{eqb-true}
use Rattle.std.proofs.lemmas.List.{drop_all}
use Rattle.std.proofs.lemmas.Option.{slice_get-get_or}
use Rattle.smlc_base.specs.declared.point.Point.{Point}
use Rattle.smlc_base.specs.declared.point.Site.{Site}
use Rattle.smlc_base.specs.Points.{is_point, is_label}
use Rattle.smlc_base.specs.SiteWords.{find_site, is_left, outward, around}
use Rattle.simulation.proofs.Nth.{point_eq}
use Rattle.sml_tree.specs.Order.{rank}
use Rattle.sml_tree.specs.Sets.{has, union}
use Rattle.sml_tree.proofs.Members.{has-union}
use Rattle.cps_free.specs.Same.{AreSame}
use Rattle.label_order.proofs.Ranks.{rank_point}
use Rattle.left_words.specs.Tables.{AreRanked, AreFirst, numbered, frame_at}

-- ---- One rank, one point

pub rank_eq : (p q : Point) → nat_eq (rank p) (rank q) ≡ is_point p q
rank_eq p q = by (nat_eq (rank p) (rank q)) (is_point p q) refl refl
  where
    by : (a b : Bool) → nat_eq (rank p) (rank q) ≡ a → is_point p q ≡ b → nat_eq (rank p) (rank q) ≡ is_point p q
    by true b e f = e ∙ sym (rank_point p q (eqb-true (rank p) (rank q) e))
    by false false e f = e ∙ sym f
    by false true e f =
        absurd (let same : rank p ≡ rank q = ap rank (point_eq p q f) in let g : nat_eq (rank p) (rank q) ≡ true = grind (arith, same) in let h : false ≡ true = sym e ∙ g in cc)

-- ---- Labels

pub none_ranked : (left : List Point) (i : ℕ) (ranks : List ℕ) → length left ≤ i → ranks ≡ [] → AreRanked (drop i left) ranks
none_ranked left i ranks past e p = ap (λ ks. has ks (rank p)) e ∙ ap (λ ls. is_label ls p) (sym (drop_all i left past))

pub rank_more : (left : List Point) (i r : ℕ) (d : Point) (old new : List ℕ) → 0 < i → i ≤ length left → r ≡ rank (slice_index_or left (i - 1) d) → AreRanked (drop i left) old → AreSame new (union (r ∷ []) old) → AreRanked (drop (i - 1) left) new
rank_more left i r d old new pos le e a s p =
    let q = slice_index_or left (i - 1) d in
    let next : suc (i - 1) ≡ i = omega arith in
    let front : drop (i - 1) left ≡ q ∷ drop i left = drop-cons left (i - 1) d (omega arith) ∙ ap (λ k. q ∷ drop k left) next in
    let turned : nat_eq (rank p) (rank q) ≡ nat_eq (rank q) (rank p) = grind arith in
    s (rank p) ∙ has-union (r ∷ []) old (rank p)
    ∙ ap (λ k. (nat_eq (rank p) k || false) || has old (rank p)) e
    ∙ by (nat_eq (rank p) (rank q)) (has old (rank p))
    ∙ ap (λ b. b || has old (rank p)) (turned ∙ rank_eq q p)
    ∙ ap (λ b. is_point q p || b) (a p)
    ∙ ap (λ ls. is_label ls p) (sym front)
  where
    by : (a b : Bool) → ((a || false) || b) ≡ (a || b)
    by true b = refl
    by false b = refl

-- ---- Sites

pub none_first : (all : List Site) (i : ℕ) (numbers : BTreeMap ℕ ℕ) → length all ≤ i → IsEmpty numbers → AreFirst all (drop i all) numbers
none_first all i numbers past e p =
    ap (λ es. numbered all (lookup (is_at (nat_cmp (rank p))) es)) e ∙ ap (λ ss. find_site ss p) (sym (drop_all i all past))

pub number_more : (all : List Site) (i r n : ℕ) (d : Site) (old new : BTreeMap ℕ ℕ) → 0 < i → i ≤ length all → r ≡ rank (slice_index_or all (i - 1) d).point → n ≡ i - 1 → AreFirst all (drop i all) old → ((q : ℕ) → get nat_cmp new q ≡ cond (is_at (nat_cmp r) q) (Some n) (get nat_cmp old q)) → AreFirst all (drop (i - 1) all) new
number_more all i r n d old new pos le e f a g p =
    ap (numbered all) (g (rank p))
    ∙ ap (λ b. numbered all (cond b (Some n) (get nat_cmp old (rank p)))) (unsigned_tied r (rank p) ∙ ap (λ k. nat_eq k (rank p)) e ∙ rank_eq s.point p)
    ∙ by (is_point s.point p)
    ∙ ap (λ ss. find_site ss p) (sym front)
  where
    s : Site
    s = slice_index_or all (i - 1) d

    front : drop (i - 1) all ≡ slice_index_or all (i - 1) d ∷ drop i all
    front = let next : suc (i - 1) ≡ i = omega arith in drop-cons all (i - 1) d (omega arith) ∙ ap (λ k. slice_index_or all (i - 1) d ∷ drop k all) next

    by : (b : Bool) → numbered all (cond b (Some n) (get nat_cmp old (rank p))) ≡ cond b (Some (slice_index_or all (i - 1) d)) (find_site (drop i all) p)
    by true = ap (slice_get all) f ∙ slice_get-get_or all (i - 1) d (omega arith)
    by false = a p

-- ---- Outward

pub around_step : (n : ℕ) (labels : List Point) (sites : List Site) (at : Option Point) → around (suc n) labels sites at ≡ outward (around n labels sites) (frame_at labels sites at)
around_step n labels sites None = refl
around_step n labels sites (Some p) = by (is_left labels p)
  where
    by : (b : Bool) → cond b 0 (outward (around n labels sites) (find_site sites p)) ≡ outward (around n labels sites) (cond b None (find_site sites p))
    by true = refl
    by false = refl

left_suc : (len k : ℕ) → k < len → len - k ≡ suc (len - (k + 1))
left_suc len k h = omega (arith, h)

pub goes_on : (labels : List Point) (sites : List Site) (len k total sum all : ℕ) (at : Option Point) (s : Site) → k < len → Some s ≡ frame_at labels sites at → sum ≡ total + s.words → total + around (len - k) labels sites at ≡ all → sum + around (len - (k + 1)) labels sites s.outer ≡ all
goes_on labels sites len k total sum all at s lt e f g =
    let a : around (len - k) labels sites at ≡ s.words + around (len - (k + 1)) labels sites s.outer =
    ap (λ n. around n labels sites at) (left_suc len k lt) ∙ around_step (len - (k + 1)) labels sites at ∙ ap (outward (around (len - (k + 1)) labels sites)) (sym e) in
    omega (arith, a, f, g)

pub ends_here : (labels : List Point) (sites : List Site) (len k total all : ℕ) (at : Option Point) → k < len → None ≡ frame_at labels sites at → total + around (len - k) labels sites at ≡ all → total ≡ all
ends_here labels sites len k total all at lt e g =
    let a : around (len - k) labels sites at ≡ 0 =
    ap (λ n. around n labels sites at) (left_suc len k lt) ∙ around_step (len - (k + 1)) labels sites at ∙ ap (outward (around (len - (k + 1)) labels sites)) (sym e) in
    omega (arith, a, g)

pub ends_late : (labels : List Point) (sites : List Site) (len k total all : ℕ) (at : Option Point) → len ≤ k → total + around (len - k) labels sites at ≡ all → total ≡ all
ends_late labels sites len k total all at h g =
    let none : len - k ≡ 0 = omega (arith, h) in
    let a : around (len - k) labels sites at ≡ 0 = ap (λ n. around n labels sites at) none in
    omega (arith, a, g)

pub begins : (labels : List Point) (sites : List Site) (len : ℕ) (at : Option Point) → 0 + around (len - 0) labels sites at ≡ around len labels sites at
begins labels sites len at = let a : len - 0 ≡ len = omega arith in let b : 0 + around (len - 0) labels sites at ≡ around (len - 0) labels sites at = omega arith in b ∙ ap (λ n. around n labels sites at) a
