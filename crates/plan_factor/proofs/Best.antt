-- The greatest quotient is the factor of the definition.
use Rattle.std.proofs.Common.{◌≡◌, ℕ, zero, suc, ◌+◌, ◌-◌, ◌<◌, ◌≤◌, Bool, true, false, cond, List, [], ◌∷◌, ◌++◌, Option, Some, None, length, map, drop, refl, sym, ap, ◌∙◌, subst, arith}
use Rattle.std.specs.Prelude.{nat_eq, max, slice_get, slice_index_or, if◌then◌else◌}
use Rattle.std.proofs.Math.Seq.{drop-cons}
use Rattle.smlc_base.specs.declared.point.Point.{Point}
use Rattle.smlc_base.specs.declared.point.Site.{Site}
use Rattle.smlc_base.specs.SiteWords.{site_words}
use Rattle.sml_tree.specs.IsBare.{IsAscending}
use Rattle.sml_tree.specs.Sets.{union, union_over}
use Rattle.cps_ir.specs.Code.{Code}
use Rattle.cps_ir.specs.Slim.{Layout, layouts}
use Rattle.lifetime_users.specs.declared.class.Class.{Class}
use Rattle.lifetime_users.specs.Users.{classes}
use Rattle.close_laws.specs.Layouts.{Facts, facts, is_static, layout_classes, layout_words, record_words, classes_of, label}
use Rattle.close_laws.specs.Close.{labelled, points_of}
use Rattle.close_laws.specs.Plan.{frame_point, quotient, of_site, words_of, factor_at, greatest}
use Rattle.closure_layouts.specs.declared.layouts.ClosureLayout.{ClosureLayout}
use Rattle.closure_layouts.specs.Found.{closure_at}
use Rattle.closure_layouts.proofs.Rows.{numbers_ascend}
use Rattle.label_order.specs.Order.{numbered, at_number, by_label_in, points_in}
use Rattle.label_order.proofs.Labelled.{labelled_in_order}
use Rattle.label_plans.specs.Rows.{records_of}
use Rattle.label_plans.proofs.Planned.{records_are}
use Rattle.left_words.proofs.Sited.{rank_eq}
use Rattle.plan_factor.specs.Groups.{frame_rank, has_rank, with_rank, words_at, classes_at, words_in, classes_in, AreAscending, site_factor, best_with, best_in}

-- ---- Layouts ascend

classes_ascend : (A : Facts) (p : Point) → IsAscending 0 (layout_classes A p)
classes_ascend A p = by (is_static A p)
  where
    by : (b : Bool) → IsAscending 0 (cond b [] (classes_of 0 (label A p) A.classes))
    by true = tt
    by false = numbers_ascend 0 (label A p) A.classes

pub all_ascend : (A : Facts) (all : List Layout) → AreAscending (map (λ (l : Layout). closure_at A l.point) all)
all_ascend A [] = tt
all_ascend A (l ∷ all) = (classes_ascend A l.point, all_ascend A all)

module _ (A : Facts) (left : List Point) (sites : List Site) where
  abbrev G : Layout → ClosureLayout
  G l = closure_at A l.point

  -- ---- A group

  words_one : (all : List Layout) (i : ℕ) (rest : ℕ) (is : List ℕ) → rest ≡ words_of A sites left (points_in (numbered all is)) → words_at (slice_get (map G all) i) + rest ≡ words_of A sites left (points_in (at_number (slice_get all i) ++ numbered all is))
  words_one all i rest is e = go all i (numbered all is) e
    where
      go : (ls : List Layout) (j : ℕ) (ks : List Layout) → rest ≡ words_of A sites left (points_in ks) → words_at (slice_get (map G ls) j) + rest ≡ words_of A sites left (points_in (at_number (slice_get ls j) ++ ks))
      go [] j ks f = (let z : 0 + rest ≡ rest = omega arith in z) ∙ f
      go (l ∷ ls) zero ks f = ap (λ n. layout_words A l.point + n) f
      go (l ∷ ls) (suc j) ks f = go ls j ks f

  words_are : (all : List Layout) (is : List ℕ) → words_in (map G all) is ≡ words_of A sites left (points_in (numbered all is))
  words_are all [] = refl
  words_are all (i ∷ is) = words_one all i (words_in (map G all) is) is (words_are all is)

  classes_are : (all : List Layout) (is : List ℕ) → classes_in (map G all) is ≡ union_over (layout_classes A) (points_in (numbered all is))
  classes_are all [] = refl
  classes_are all (i ∷ is) = go all i (numbered all is) (classes_are all is)
    where
      go : (ls : List Layout) (j : ℕ) (ks : List Layout) → classes_in (map G all) is ≡ union_over (layout_classes A) (points_in ks) → union (classes_at (slice_get (map G ls) j)) (classes_in (map G all) is) ≡ union_over (layout_classes A) (points_in (at_number (slice_get ls j) ++ ks))
      go [] j ks f = f
      go (l ∷ ls) zero ks f = ap (union (layout_classes A l.point)) f
      go (l ∷ ls) (suc j) ks f = go ls j ks f

  site_are : (all : List Layout) (order : List ℕ) (p : Point) → points_in (numbered all (with_rank all order (frame_rank p))) ≡ of_site A sites left (points_in (numbered all order)) p
  site_are all [] p = refl
  site_are all (i ∷ order) p = by (slice_get all i) refl (site_are all order p)
    where
      step : (l : Layout) (t : Bool) → slice_get all i ≡ Some l → points_in (numbered all (with_rank all order (frame_rank p))) ≡ of_site A sites left (points_in (numbered all order)) p → points_in (numbered all (if t then i ∷ with_rank all order (frame_rank p) else with_rank all order (frame_rank p))) ≡ (if t then l.point ∷ of_site A sites left (points_in (numbered all order)) p else of_site A sites left (points_in (numbered all order)) p)
      step l true f e = ap (λ o. points_in (at_number o ++ numbered all (with_rank all order (frame_rank p)))) f ∙ ap (λ ps. l.point ∷ ps) e
      step l false f e = e

      by : (o : Option Layout) → slice_get all i ≡ o → points_in (numbered all (with_rank all order (frame_rank p))) ≡ of_site A sites left (points_in (numbered all order)) p → points_in (numbered all (if has_rank o (frame_rank p) then i ∷ with_rank all order (frame_rank p) else with_rank all order (frame_rank p))) ≡ of_site A sites left (points_in (at_number o ++ numbered all order)) p
      by None f e = e
      by (Some l) f e =
          step l (nat_eq (frame_rank l.point) (frame_rank p)) f e
          ∙ ap (λ t. if t then l.point ∷ of_site A sites left (points_in (numbered all order)) p else of_site A sites left (points_in (numbered all order)) p) (rank_eq (frame_point l.point) (frame_point p))

  one_site : (all : List Layout) (order : List ℕ) (p : Point) → site_factor left sites A.classes (map G all) (with_rank all order (frame_rank p)) p ≡ factor_at A sites left (points_in (numbered all order)) p
  one_site all order p =
      let is = with_rank all order (frame_rank p) in
      let S = site_words left sites (frame_point p) in
      ap (λ n. quotient (n + records_of A.classes (classes_in (map G all) is)) S) (words_are all is)
      ∙ ap (λ n. quotient (words_of A sites left (points_in (numbered all is)) + n) S) (records_are A (classes_in (map G all) is) ∙ ap (record_words A) (classes_are all is))
      ∙ ap (λ ps. quotient (words_of A sites left ps + record_words A (union_over (layout_classes A) ps)) S) (site_are all order p)

  best_are : (all : List Layout) (order is : List ℕ) (groups : ℕ → List ℕ) → ((q : ℕ) → groups q ≡ with_rank all order q) → best_in left sites A.classes (map G all) groups all is ≡ greatest A sites left (points_in (numbered all order)) (points_in (numbered all is))
  best_are all order [] groups h = refl
  best_are all order (i ∷ is) groups h = by (slice_get all i) (best_are all order is groups h)
    where
      by : (o : Option Layout) → best_in left sites A.classes (map G all) groups all is ≡ greatest A sites left (points_in (numbered all order)) (points_in (numbered all is)) → best_with left sites A.classes (map G all) groups o (best_in left sites A.classes (map G all) groups all is) ≡ greatest A sites left (points_in (numbered all order)) (points_in (at_number o ++ numbered all is))
      by None e = e
      by (Some l) e =
          ap (λ n. max (site_factor left sites A.classes (map G all) (groups (frame_rank l.point)) l.point) n) e
          ∙ ap (λ g. max (site_factor left sites A.classes (map G all) g l.point) (greatest A sites left (points_in (numbered all order)) (points_in (numbered all is)))) (h (frame_rank l.point))
          ∙ ap (λ n. max n (greatest A sites left (points_in (numbered all order)) (points_in (numbered all is)))) (one_site all order l.point)

pub factor_is : (c : Code) (fresh : ℕ) (left : List Point) (sites : List Site) (cls : List Class) (all : List Layout) (ks : List ClosureLayout) (order : List ℕ) (groups : ℕ → List ℕ) → all ≡ layouts c → ks ≡ map (λ (l : Layout). closure_at (facts fresh c) l.point) (layouts c) → numbered all order ≡ by_label_in all all → cls ≡ classes c → ((q : ℕ) → groups q ≡ with_rank all order q) → best_in left sites cls ks groups all order ≡ greatest (facts fresh c) sites left (points_of (labelled (facts fresh c) c)) (points_of (labelled (facts fresh c) c))
factor_is c fresh left sites cls all ks order groups e f o h g =
    let by : numbered (layouts c) order ≡ by_label_in (layouts c) (layouts c) = subst (λ ls. numbered ls order ≡ by_label_in ls ls) e o in
    let own : points_in (numbered (layouts c) order) ≡ points_of (labelled (facts fresh c) c) = ap points_in by ∙ sym (labelled_in_order (facts fresh c) c refl) in
    ap (λ js. best_in left sites js ks groups all order) h ∙ ap (λ js. best_in left sites (classes c) js groups all order) f
    ∙ ap (λ ls. best_in left sites (classes c) (map (λ (l : Layout). closure_at (facts fresh c) l.point) (layouts c)) groups ls order) e
    ∙ best_are (facts fresh c) left sites (layouts c) order order groups (subst (λ ls. (q : ℕ) → groups q ≡ with_rank ls order q) e g)
    ∙ ap (λ ps. greatest (facts fresh c) sites left ps ps) own

pub best_back : (left : List Point) (sites : List Site) (cls : List Class) (ks : List ClosureLayout) (groups : ℕ → List ℕ) (all : List Layout) (order : List ℕ) (i d best now : ℕ) → 0 < i → i ≤ length order → best ≡ best_in left sites cls ks groups all (drop i order) → now ≡ best_with left sites cls ks groups (slice_get all (slice_index_or order (i - 1) d)) best → now ≡ best_in left sites cls ks groups all (drop (i - 1) order)
best_back left sites cls ks groups all order i d best now pos le e f =
    let k = slice_index_or order (i - 1) d in
    let next : suc (i - 1) ≡ i = omega arith in
    let front : drop (i - 1) order ≡ k ∷ drop i order = drop-cons order (i - 1) d (omega arith) ∙ ap (λ j. k ∷ drop j order) next in
    f ∙ ap (best_with left sites cls ks groups (slice_get all k)) e ∙ ap (best_in left sites cls ks groups all) (sym front)

pub site_is : (left : List Point) (sites : List Site) (cls : List Class) (ks : List ClosureLayout) (groups : ℕ → List ℕ) (p fp : Point) (r closed source n : ℕ) (group : List ℕ) → n ≡ quotient closed source → closed ≡ words_in ks group + records_of cls (classes_in ks group) → group ≡ groups r → r ≡ frame_rank p → source ≡ site_words left sites fp → fp ≡ frame_point p → n ≡ site_factor left sites cls ks (groups (frame_rank p)) p
site_is left sites cls ks groups p fp r closed source n group e f g h k m =
    e ∙ ap (λ w. quotient w source) (f ∙ ap (λ is. words_in ks is + records_of cls (classes_in ks is)) (g ∙ ap groups h))
    ∙ ap (quotient (words_in ks (groups (frame_rank p)) + records_of cls (classes_in ks (groups (frame_rank p))))) (k ∙ ap (site_words left sites) m)

pub better_is : (left : List Point) (sites : List Site) (cls : List Class) (ks : List ClosureLayout) (groups : ℕ → List ℕ) (l : Layout) (o : Option Layout) (p : Point) (here best now : ℕ) → o ≡ Some l → p ≡ l.point → here ≡ site_factor left sites cls ks (groups (frame_rank p)) p → now ≡ max here best → now ≡ best_with left sites cls ks groups o best
better_is left sites cls ks groups l o p here best now e f g h =
    h ∙ ap (λ n. max n best) (g ∙ ap (λ q. site_factor left sites cls ks (groups (frame_rank q)) q) f) ∙ sym (ap (λ q. best_with left sites cls ks groups q best) e)
