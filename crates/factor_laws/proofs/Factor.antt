-- The factor of a slim program's plan: at each site its closures and their records have at most 4 times its words.
use Rattle.std.proofs.Common.{◌≡◌, ℕ, zero, suc, ◌+◌, ◌*◌, ◌-◌, ◌<◌, ◌≤◌, List, [], ◌∷◌, ◌++◌, length, Bool, true, false, cond, ◌||◌, Option, Some, None, ◌⊎◌, inl, inr, refl, sym, ap, ◌∙◌, subst, arith, ⊎_elim, nat_eq, nat_lt}
use Rattle.std.specs.Prelude.{filter, if◌then◌else◌}
use Rattle.std.proofs.Math.Nat.{max-le}
use Rattle.std.proofs.lemmas.Nat.{div_below}
use Rattle.std.proofs.lemmas.Bool.{eqb-true, cases_lt}
use Rattle.smlc_base.specs.declared.point.Point.{Point}
use Rattle.smlc_base.specs.declared.point.PointKind.{PointKind}
use Rattle.smlc_base.specs.declared.point.PointKind.TheVariants as kind
use Rattle.smlc_base.specs.declared.point.Site.{Site}
use Rattle.smlc_base.specs.Points.{is_point, is_label}
use Rattle.smlc_base.specs.SiteWords.{find_site, outward, around, site_words}
use Rattle.simulation.specs.Blocks.{IsAmong}
use Rattle.simulation.specs.Runs.{times}
use Rattle.simulation.proofs.Nth.{point_is_one, point_eq}
use Rattle.simulation.proofs.Lists.{among_left, among_right, label_times, times-append}
use Rattle.sml_tree.specs.IsBare.{IsDistinct}
use Rattle.sml_tree.specs.Sets.{union, union_over, merge}
use Rattle.sml_def.specs.Run.{eq_point}
use Rattle.cps_ir.specs.Code.{Tree, Code, Make, Pick, Prim, Equal, Fix, Call, Match, Handler, SetHandler, Throw, Halt, Functions, NoFunction, Function, Rules, Otherwise, Rule}
use Rattle.cps_ir.specs.Free.{bound, labels, labels_functions, labels_rules}
use Rattle.cps_ir.specs.Slim.{Layout, layouts, holds_of, most_held, least_words, IsSlim}
use Rattle.lifetime_users.specs.Users.{label_in}
use Rattle.close_laws.specs.Layouts.{Facts, facts, closed_names, layout_classes, class_vars, record_words}
use Rattle.close_laws.specs.Close.{compares, compares_functions, compares_rules, labelled, points_of, left_points}
use Rattle.close_laws.specs.Plan.{frame_point, caught_kind, quotient, of_site, words_of, closed_words, factor_at, greatest, plan}
use Rattle.close_laws.proofs.ClosedSets.{greatest_closed}
use Rattle.label_order.specs.Order.{AreApart, of_label, by_label_from, points_in}
use Rattle.label_order.proofs.Labelled.{labelled_in_order}
use Rattle.closure_plan.proofs.Apart.{pointed_once, slim_apart}
use Rattle.contract_slim.proofs.Slim.{label_of, point_stands}
use Rattle.contract_slim.proofs.Words.{words_more}
use Rattle.factor_laws.specs.Law.{FactorIsAtMost4}
use Rattle.factor_laws.proofs.Weight.{weight, Light, light}

-- ---- Rounding up

small_quotient : (n m : ℕ) → n ≤ 4 * m → quotient n m ≤ 4
small_quotient n zero h = omega arith
small_quotient n (suc d) h = let k = div_below (n + d) (suc d) 5 (omega arith) (omega (arith, h)) in omega (arith, k)

-- ---- Records that two have are counted once

module _ (A : Facts) where
  merged : (x m : ℕ) (rest : List ℕ → List ℕ) → ((zs : List ℕ) → record_words A (rest zs) ≤ m + record_words A zs) → (ys : List ℕ) → record_words A (merge x rest ys) ≤ suc (length (class_vars A x)) + m + record_words A ys
  merged x m rest h [] = let k = h [] in omega (arith, k)
  merged x m rest h (y ∷ ys) = by (nat_lt x y) (nat_eq x y) refl (merged x m rest h ys)
    where
      by : (a b : Bool) → nat_eq x y ≡ b → record_words A (merge x rest ys) ≤ suc (length (class_vars A x)) + m + record_words A ys → record_words A (if a then x ∷ rest (y ∷ ys) else if b then x ∷ rest ys else y ∷ merge x rest ys) ≤ suc (length (class_vars A x)) + m + (suc (length (class_vars A y)) + record_words A ys)
      by true b e g = let k = h (y ∷ ys) in omega (arith, k)
      by false true e g = let k = h ys in omega (arith, k)
      by false false e g = omega (arith, g)

  united : (xs ys : List ℕ) → record_words A (union xs ys) ≤ record_words A xs + record_words A ys
  united [] ys = omega arith
  united (x ∷ xs) ys = let h = merged x (record_words A xs) (union xs) (united xs) ys in omega (arith, h)

  abbrev total : List Point → ℕ
  total [] = 0
  total (p ∷ ps) = weight A p + total ps

  in_total : (sites : List Site) (left ps : List Point) → words_of A sites left ps + record_words A (union_over (layout_classes A) ps) ≤ total ps
  in_total sites left [] = omega arith
  in_total sites left (p ∷ ps) =
      let h = in_total sites left ps in let u = united (layout_classes A p) (union_over (layout_classes A) ps) in omega (arith, h, u)

-- ---- One function or two at a site

abbrev cap : ℕ → ℕ → ℕ
cap zero w = 0
cap (suc n) w = w

cap_less : (m n w : ℕ) → m ≤ n → cap m w ≤ cap n w
cap_less zero n w h = omega arith
cap_less (suc m) zero w h = absurd (omega (arith, h))
cap_less (suc m) (suc n) w h = omega arith

module _ (A : Facts) where
  once_more : (a : Point) (qs : List Point) → times a (a ∷ qs) ≡ suc (times a qs)
  once_more a qs = ap (λ b. cond b (suc (times a qs)) (times a qs)) (point_is_one a)

  no_less : (a q : Point) (qs : List Point) → times a qs ≤ times a (q ∷ qs)
  no_less a q qs = by (is_point q a)
    where
      by : (b : Bool) → times a qs ≤ cond b (suc (times a qs)) (times a qs)
      by true = omega arith
      by false = omega arith

  first_fits : (a : Point) (qs : List Point) (rest : ℕ) → times a (a ∷ qs) ≤ 1 → rest ≤ cap (times a qs) (weight A a) → weight A a + rest ≤ cap (times a (a ∷ qs)) (weight A a)
  first_fits a qs rest h g = by (times a qs) (times a (a ∷ qs)) (once_more a qs) h g
    where
      by : (n m : ℕ) → m ≡ suc n → m ≤ 1 → rest ≤ cap n (weight A a) → weight A a + rest ≤ cap m (weight A a)
      by zero m e h g = subst (λ k. weight A a + rest ≤ cap k (weight A a)) (sym e) (let r : rest ≤ 0 = g in omega (arith, r))
      by (suc n) m e h g = absurd (omega (arith, e, h))

  one_place : (a : Point) (qs : List Point) → ((q : Point) → IsAmong q qs → q ≡ a) → times a qs ≤ 1 → total A qs ≤ cap (times a qs) (weight A a)
  one_place a [] h t = omega arith
  one_place a (q ∷ qs) h t =
      let e : q ≡ a = h q (inl refl) in
      let less = no_less a q qs in
      let rest = one_place a qs (λ r i. h r (inr i)) (omega (arith, t, less)) in
      subst (λ r. weight A r + total A qs ≤ cap (times a (r ∷ qs)) (weight A a)) (sym e) (first_fits a qs (total A qs) (subst (λ r. times a (r ∷ qs) ≤ 1) e t) rest)

  two_places : (a b : Point) (qs : List Point) → ((q : Point) → IsAmong q qs → (q ≡ a) ⊎ (q ≡ b)) → times a qs ≤ 1 → times b qs ≤ 1 → total A qs ≤ cap (times a qs) (weight A a) + cap (times b qs) (weight A b)
  two_places a b [] h t s = omega arith
  two_places a b (q ∷ qs) h t s =
      let lt = no_less a q qs in
      let ls = no_less b q qs in
      let rest = two_places a b qs (λ r i. h r (inr i)) (omega (arith, t, lt)) (omega (arith, s, ls)) in
      let ca = cap_less (times a qs) (times a (q ∷ qs)) (weight A a) lt in
      let cb = cap_less (times b qs) (times b (q ∷ qs)) (weight A b) ls in
      ⊎_elim
      (λ (e : q ≡ a). let one = alone a qs (weight A a) (subst (λ r. times a (r ∷ qs) ≤ 1) e t) in
      let w : weight A q ≡ weight A a = ap (weight A) e in
      let c : cap (times a (q ∷ qs)) (weight A a) ≡ cap (times a (a ∷ qs)) (weight A a) = ap (λ r. cap (times a (r ∷ qs)) (weight A a)) e in
      omega (arith, rest, cb, w, c, one))
      (λ (e : q ≡ b). let one = alone b qs (weight A b) (subst (λ r. times b (r ∷ qs) ≤ 1) e s) in
      let w : weight A q ≡ weight A b = ap (weight A) e in
      let c : cap (times b (q ∷ qs)) (weight A b) ≡ cap (times b (b ∷ qs)) (weight A b) = ap (λ r. cap (times b (r ∷ qs)) (weight A b)) e in
      omega (arith, rest, ca, w, c, one))
      (h q (inl refl))
    where
      alone : (r : Point) (ps : List Point) (w : ℕ) → times r (r ∷ ps) ≤ 1 → cap (times r ps) w + w ≤ cap (times r (r ∷ ps)) w
      alone r ps w h = by (times r ps) (times r (r ∷ ps)) (once_more r ps) h
        where
          by : (n m : ℕ) → m ≡ suc n → m ≤ 1 → cap n w + w ≤ cap m w
          by zero m e g = subst (λ k. 0 + w ≤ cap k w) (sym e) (omega arith)
          by (suc n) m e g = absurd (omega (arith, e, g))

-- ---- The functions in the order of labels stand once

none_times : (r : Point) (ls : List Layout) → ((k : Layout) → IsAmong k ls → is_point k.point r ≡ false) → times r (points_in ls) ≡ 0
none_times r [] h = refl
none_times r (l ∷ ls) h =
    ap (λ b. cond b (suc (times r (points_in ls))) (times r (points_in ls))) (h l (inl refl)) ∙ none_times r ls (λ k i. h k (inr i))

apart_times : (r : Point) (ls : List Layout) → AreApart ls → times r (points_in ls) ≤ 1
apart_times r [] a = omega arith
apart_times r (l ∷ ls) a = by (is_point l.point r) refl (apart_times r ls a.1)
  where
    by : (b : Bool) → is_point l.point r ≡ b → times r (points_in ls) ≤ 1 → cond b (suc (times r (points_in ls))) (times r (points_in ls)) ≤ 1
    by true e h =
        let n = none_times r ls (λ k i. subst (λ p. is_point k.point p ≡ false) (point_eq l.point r e) (a.0 k i)) in omega (arith, n)
    by false e h = h

module _ (all : List Layout) where
  of_one : (r : Point) (n : ℕ) (ls : List Layout) → times r (points_in (of_label all n ls)) ≡ cond (nat_eq (label_in all r) n) (times r (points_in ls)) 0
  of_one r n [] = by (nat_eq (label_in all r) n)
    where
      by : (b : Bool) → zero ≡ cond b zero zero
      by true = refl
      by false = refl
  of_one r n (l ∷ ls) = by (is_point l.point r) refl (nat_eq (label_in all l.point) n) refl (of_one r n ls)
    where
      here : (b : Bool) → is_point l.point r ≡ b → (d : Bool) → nat_eq (label_in all l.point) n ≡ d → b ≡ true → nat_eq (label_in all r) n ≡ d
      here b e d f g = ap (λ p. nat_eq (label_in all p) n) (sym (point_eq l.point r (e ∙ g))) ∙ f

      by : (b : Bool) → is_point l.point r ≡ b → (d : Bool) → nat_eq (label_in all l.point) n ≡ d → times r (points_in (of_label all n ls)) ≡ cond (nat_eq (label_in all r) n) (times r (points_in ls)) 0 → times r (points_in (cond d (l ∷ of_label all n ls) (of_label all n ls))) ≡ cond (nat_eq (label_in all r) n) (cond b (suc (times r (points_in ls))) (times r (points_in ls))) 0
      by true e true f h =
          let g = here true e true f refl in
          ap (λ b. cond b (suc (times r (points_in (of_label all n ls)))) (times r (points_in (of_label all n ls)))) e ∙ ap suc (h ∙ ap (λ b. cond b (times r (points_in ls)) 0) g) ∙ ap (λ b. cond b (suc (times r (points_in ls))) 0) (sym g)
      by true e false f h =
          let g = here true e false f refl in
          h ∙ ap (λ b. cond b (times r (points_in ls)) 0) g ∙ ap (λ b. cond b (suc (times r (points_in ls))) 0) (sym g)
      by false e true f h = ap (λ b. cond b (suc (times r (points_in (of_label all n ls)))) (times r (points_in (of_label all n ls)))) e ∙ h
      by false e false f h = h

  points_join : (ls ks : List Layout) → points_in (ls ++ ks) ≡ points_in ls ++ points_in ks
  points_join [] ks = refl
  points_join (l ∷ ls) ks = ap (λ ps. l.point ∷ ps) (points_join ls ks)

  record Ordered (r : Point) (m n : ℕ) (ls : List Layout) : Type 0 where
    most : times r (points_in (by_label_from all m n ls)) ≤ times r (points_in ls)
    before : label_in all r < m → times r (points_in (by_label_from all m n ls)) ≡ 0

  ordered : (r : Point) (m n : ℕ) (ls : List Layout) → Ordered r m n ls
  ordered r m zero ls = record { most = omega arith; before = λ h. refl }
  ordered r m (suc n) ls = by (nat_eq (label_in all r) m) refl (ordered r (suc m) n ls)
    where
      both : times r (points_in (of_label all m ls ++ by_label_from all (suc m) n ls)) ≡ cond (nat_eq (label_in all r) m) (times r (points_in ls)) 0 + times r (points_in (by_label_from all (suc m) n ls))
      both = ap (times r) (points_join (of_label all m ls) (by_label_from all (suc m) n ls)) ∙ times-append r (points_in (of_label all m ls)) (points_in (by_label_from all (suc m) n ls)) ∙ ap (λ k. k + times r (points_in (by_label_from all (suc m) n ls))) (of_one r m ls)

      by : (b : Bool) → nat_eq (label_in all r) m ≡ b → Ordered r (suc m) n ls → Ordered r m (suc n) ls
      by true e o =
          let s = eqb-true (label_in all r) m e in
          let z = o.before (omega (arith, s)) in
          let t : cond (nat_eq (label_in all r) m) (times r (points_in ls)) 0 ≡ times r (points_in ls) = ap (λ b. cond b (times r (points_in ls)) 0) e in
          let c = both in
          record { most = omega (arith, z, t, c); before = λ h. absurd (omega (arith, h, s)) }
      by false e o =
          let t : cond (nat_eq (label_in all r) m) (times r (points_in ls)) 0 ≡ 0 = ap (λ b. cond b (times r (points_in ls)) 0) e in
          let c = both in
          let k = o.most in
          record { most = omega (arith, t, c, k); before = λ h. (let z = o.before (omega (arith, h)) in omega (arith, t, c, z)) }

point_of_layout : (r : Point) (ls : List Layout) → 1 ≤ times r (points_in ls) → (l : Layout) × IsAmong l ls × (l.point ≡ r)
point_of_layout r [] h = absurd (omega (arith, h))
point_of_layout r (l ∷ ls) h = by (is_point l.point r) refl h (point_of_layout r ls)
  where
    by : (b : Bool) → is_point l.point r ≡ b → 1 ≤ cond b (suc (times r (points_in ls))) (times r (points_in ls)) → (1 ≤ times r (points_in ls) → (k : Layout) × IsAmong k ls × (k.point ≡ r)) → (k : Layout) × IsAmong k (l ∷ ls) × (k.point ≡ r)
    by true e g f = (l, inl refl, point_eq l.point r e)
    by false e g f = let s = f g in (s.0, inr s.1, s.2)

-- ---- A comparison is a label

or_either : (a b : Bool) → (a || b) ≡ true → (a ≡ true) ⊎ (b ≡ true)
or_either true b e = inl refl
or_either false b e = inr e

mutual
  compared : (c : Code) → compares c ≡ true → IsAmong eq_point (labels c)
  compared (Make x s atoms c) h = compared c h
  compared (Pick x i a c) h = compared c h
  compared (Prim x f atoms c) h = compared c h
  compared (Equal a b t k) h = inl refl
  compared (Fix fs c) h = ⊎_elim
      (λ (e : compares_functions fs ≡ true). among_left eq_point (labels_functions fs) (labels c) (compared_in fs e))
      (λ (e : compares c ≡ true). among_right eq_point (labels_functions fs) (labels c) (compared c e))
      (or_either (compares_functions fs) (compares c) h)
  compared (Call a atoms) h = absurd (cc)
  compared (Match a rules) h = compared_rules rules h
  compared (Handler x c) h = compared c h
  compared (SetHandler a c) h = compared c h
  compared (Throw a) h = absurd (cc)
  compared Halt h = absurd (cc)

  compared_in : (fs : Functions) → compares_functions fs ≡ true → IsAmong eq_point (labels_functions fs)
  compared_in NoFunction h = absurd (cc)
  compared_in (Function f p params b fs) h = inr (⊎_elim
      (λ (e : compares b ≡ true). among_left eq_point (labels b) (labels_functions fs) (compared b e))
      (λ (e : compares_functions fs ≡ true). among_right eq_point (labels b) (labels_functions fs) (compared_in fs e))
      (or_either (compares b) (compares_functions fs) h))

  compared_rules : (rs : Rules) → compares_rules rs ≡ true → IsAmong eq_point (labels_rules rs)
  compared_rules (Otherwise c) h = compared c h
  compared_rules (Rule ts c rs) h = ⊎_elim
      (λ (e : compares c ≡ true). among_left eq_point (labels c) (labels_rules rs) (compared c e))
      (λ (e : compares_rules rs ≡ true). among_right eq_point (labels c) (labels_rules rs) (compared_rules rs e))
      (or_either (compares c) (compares_rules rs) h)

-- ---- Sites

site_found : (ss : List Site) (p : Point) (s : Site) → find_site ss p ≡ Some s → IsAmong s ss × (s.point ≡ p)
site_found [] p s e = absurd (cc)
site_found (t ∷ ss) p s e = by (is_point t.point p) refl e (site_found ss p s)
  where
    by : (b : Bool) → is_point t.point p ≡ b → cond b (Some t) (find_site ss p) ≡ Some s → (find_site ss p ≡ Some s → IsAmong s ss × (s.point ≡ p)) → IsAmong s (t ∷ ss) × (s.point ≡ p)
    by true f g h = let same : t ≡ s = cc in (inl (sym same), subst (λ (u : Site). u.point ≡ p) same (point_eq t.point p f))
    by false f g h = let r = h g in (inr r.0, r.1)

abbrev popped : ℕ → Point
popped i = record { node = i; kind = kind.Popped }

abbrev at : ℕ → PointKind → Point
at i k = record { node = i; kind = k }

same_node : (p q : Point) → p ≡ q → p.node ≡ q.node
same_node p q e = ap (λ r. r.node) e

same_kind : (p q : Point) → p ≡ q → p.kind ≡ q.kind
same_kind p q e = ap (λ r. r.kind) e

-- what else than the frame's own point has this frame
unframed : (j : ℕ) (m : PointKind) (f : Point) → frame_point (at j m) ≡ f → (at j m ≡ f) ⊎ ((at j m ≡ popped f.node) × (f.kind ≡ kind.Caught))
unframed j kind.Fn f e = inl e
unframed j kind.Ret f e = inl e
unframed j kind.Caught f e = inl e
unframed j kind.Popped f e = inr (ap popped (same_node (frame_point (at j kind.Popped)) f e), sym (same_kind (frame_point (at j kind.Popped)) f e))
unframed j kind.Eq f e = inl e

filtered_in : (P : Point → Bool) (qs : List Point) (q : Point) → IsAmong q (filter P qs) → IsAmong q qs × (P q ≡ true)
filtered_in P [] q i = absurd i
filtered_in P (r ∷ qs) q i = by (P r) refl i (filtered_in P qs q)
  where
    by : (b : Bool) → P r ≡ b → IsAmong q (if b then r ∷ filter P qs else filter P qs) → (IsAmong q (filter P qs) → IsAmong q qs × (P q ≡ true)) → IsAmong q (r ∷ qs) × (P q ≡ true)
    by true e (inl g) h = (inl g, ap P g ∙ e)
    by true e (inr j) h = let s = h j in (inr s.0, s.1)
    by false e j h = let s = h j in (inr s.0, s.1)

filtered_times : (P : Point → Bool) (r : Point) (qs : List Point) → times r (filter P qs) ≤ times r qs
filtered_times P r [] = omega arith
filtered_times P r (q ∷ qs) = by (P q) (is_point q r) refl (filtered_times P r qs)
  where
    by : (b d : Bool) → is_point q r ≡ d → times r (filter P qs) ≤ times r qs → times r (if b then q ∷ filter P qs else filter P qs) ≤ cond d (suc (times r qs)) (times r qs)
    by true true e h = let k : times r (q ∷ filter P qs) ≡ suc (times r (filter P qs)) = ap (λ b. cond b (suc (times r (filter P qs))) (times r (filter P qs))) e in omega (arith, h, k)
    by true false e h = let k : times r (q ∷ filter P qs) ≡ times r (filter P qs) = ap (λ b. cond b (suc (times r (filter P qs))) (times r (filter P qs))) e in omega (arith, h, k)
    by false true e h = omega (arith, h)
    by false false e h = h

-- ---- The whole

module _ (fresh : ℕ) (q : Tree) (d : IsDistinct (bound q.code)) (s : IsSlim q) where
  abbrev c : Code
  c = q.code

  abbrev A : Facts
  A = facts fresh q.code

  abbrev closed : List ℕ
  closed = closed_names (layouts q.code)

  abbrev left : List Point
  left = left_points A q.code

  abbrev own : List Point
  own = points_of (labelled A q.code)

  abbrev S : Point → ℕ
  S r = site_words left q.sites r

  own_times : (r : Point) → times r own ≤ times r (points_in (layouts c))
  own_times r =
      subst (λ ps. times r ps ≤ times r (points_in (layouts c))) (sym (labelled_in_order A c refl)) (ordered (layouts c) r 0 (length (layouts c)) (layouts c)).most

  own_once : (r : Point) → times r own ≤ 1
  own_once r = let h = own_times r in let g = apart_times r (layouts c) (slim_apart q s) in omega (arith, h, g)

  own_layout : (r : Point) → 1 ≤ times r own → (l : Layout) × IsAmong l (layouts c) × (l.point ≡ r)
  own_layout r h = let g = own_times r in point_of_layout r (layouts c) (omega (arith, h, g))

  fewer : (r : Point) → is_label left r ≡ true → is_label (labels c) r ≡ true
  fewer r e =
      by (times r own) refl (times-append r own (cond (compares c) (eq_point ∷ []) [])) (compares c) refl (label_times r left e)
    where
      last : (b : Bool) → compares c ≡ b → 1 ≤ times r (cond b (eq_point ∷ []) []) → is_label (labels c) r ≡ true
      last true g h = here (is_point eq_point r) refl h
        where
          here : (b : Bool) → is_point eq_point r ≡ b → 1 ≤ cond b 1 0 → is_label (labels c) r ≡ true
          here true f k =
              subst (λ p. is_label (labels c) p ≡ true) (point_eq eq_point r f) (label_of eq_point (labels c) (compared c g))
          here false f k = absurd (omega (arith, k))
      last false g h = absurd (let k : 1 ≤ 0 = h in omega (arith, k))

      by : (n : ℕ) → times r own ≡ n → times r left ≡ times r own + times r (cond (compares c) (eq_point ∷ []) []) → (b : Bool) → compares c ≡ b → 0 < times r left → is_label (labels c) r ≡ true
      by zero f g b h k =
          last b h (subst (λ t. 1 ≤ times r (cond t (eq_point ∷ []) [])) h (omega (arith, f, g, k)))
      by (suc n) f g b h k =
          let l = own_layout r (omega (arith, f)) in
          subst (λ p. is_label (labels c) p ≡ true) l.2 (label_of l.0.point (labels c) (point_stands c l.0 l.1))

  abbrev Bounded : Point → ℕ → Type 0
  Bounded r n = (n ≡ 0) ⊎ ((h : ℕ) × Light n h × (h ≤ most_held r.kind (site_words (labels c) q.sites r)))

  bounded : (r : Point) (n : ℕ) → n ≤ times r own → Bounded r (cap n (weight A r))
  bounded r zero h = inl refl
  bounded r (suc n) h =
      let l = own_layout r (omega (arith, h)) in
      subst (λ p. Bounded p (weight A p)) l.2 (inr (holds_of closed l.0, light fresh c d (pointed_once (layouts c) (slim_apart q s)) l.0 l.1, s.held closed (greatest_closed c) l.0 l.1))

  more : (r : Point) → site_words (labels c) q.sites r ≤ S r
  more r = words_more left (labels c) fewer q.sites r

  -- those of one frame, against its words
  abbrev Within : ℕ → PointKind → List Point → Type 0
  Within i k qs = (r : Point) → IsAmong r qs → (r ≡ at i k) ⊎ ((r ≡ popped i) × (k ≡ kind.Caught))

  alone : (i : ℕ) (k : PointKind) (qs : List Point) → (k ≡ kind.Caught → ⊥) → Within i k qs → (r : Point) → IsAmong r qs → r ≡ at i k
  alone i k qs n w r j =
      ⊎_elim (λ (e : r ≡ at i k). e) (λ (e : (r ≡ popped i) × (k ≡ kind.Caught)). absurd (n e.1)) (w r j)

  closure_fits : (n w' w h : ℕ) → Light n h → h ≤ w' - 1 → w' ≤ w → 1 ≤ w → n ≤ 4 * w
  closure_fits n w' w h l g k o = let m = l.most in omega (arith, m, g, k, o)

  popped_fits : (n h : ℕ) → Light n h → h ≤ 2 → n ≤ 4
  popped_fits n h l g = let m = l.small g in omega (arith, m, g)

  caught_fits : (n w h : ℕ) → Light n h → h ≤ w → 2 ≤ w → n + 4 ≤ 4 * w
  caught_fits n w h l g o = ⊎_elim
      (λ (k : h < 3). let m = l.small (omega (arith, k)) in omega (arith, m, k, o))
      (λ (k : 3 ≤ h). let m = l.most in omega (arith, m, k, g))
      (cases_lt h 3)

  one_fits : (i : ℕ) (k : PointKind) (n : ℕ) → (k ≡ kind.Fn) ⊎ (k ≡ kind.Ret) → 1 ≤ S (at i k) → Bounded (at i k) n → n ≤ 4 * S (at i k)
  one_fits i k n e o (inl z) = omega (arith, z)
  one_fits i k n (inl e) o (inr b) =
      closure_fits n (site_words (labels c) q.sites (at i k)) (S (at i k)) b.0 b.1 (subst (λ m. b.0 ≤ most_held m (site_words (labels c) q.sites (at i k))) e b.2) (more (at i k)) o
  one_fits i k n (inr e) o (inr b) =
      closure_fits n (site_words (labels c) q.sites (at i k)) (S (at i k)) b.0 b.1 (subst (λ m. b.0 ≤ most_held m (site_words (labels c) q.sites (at i k))) e b.2) (more (at i k)) o

  restorer : (i n : ℕ) → Bounded (popped i) n → n ≤ 4
  restorer i n (inl z) = omega (arith, z)
  restorer i n (inr b) = popped_fits n b.0 b.1 b.2

  catcher : (i n : ℕ) → 2 ≤ S (at i kind.Caught) → Bounded (at i kind.Caught) n → n + 4 ≤ 4 * S (at i kind.Caught)
  catcher i n o (inl z) = omega (arith, z, o)
  catcher i n o (inr b) =
      let k = more (at i kind.Caught) in let g = b.2 in caught_fits n (S (at i kind.Caught)) b.0 b.1 (omega (arith, g, k)) o

  fits : (i : ℕ) (k : PointKind) (qs : List Point) → Within i k qs → ((r : Point) → times r qs ≤ times r own) → (k ≡ kind.Eq → ⊥) → least_words k ≤ S (at i k) → total A qs ≤ 4 * S (at i k)
  fits i kind.Fn qs w t n o =
      let r = at i kind.Fn in
      let f = t r in
      let g = own_once r in
      let h = one_place A r qs (alone i kind.Fn qs (λ e. cc) w) (omega (arith, f, g)) in
      let b = one_fits i kind.Fn (cap (times r qs) (weight A r)) (inl refl) o (bounded r (times r qs) f) in
      omega (arith, h, b)
  fits i kind.Ret qs w t n o =
      let r = at i kind.Ret in
      let f = t r in
      let g = own_once r in
      let h = one_place A r qs (alone i kind.Ret qs (λ e. cc) w) (omega (arith, f, g)) in
      let b = one_fits i kind.Ret (cap (times r qs) (weight A r)) (inr refl) (omega (arith, o)) (bounded r (times r qs) f) in
      omega (arith, h, b)
  fits i kind.Caught qs w t n o =
      let r = at i kind.Caught in
      let p = popped i in
      let f = t r in
      let g = own_once r in
      let f' = t p in
      let g' = own_once p in
      let h = two_places A r p qs (λ z j. ⊎_elim (λ (e : z ≡ r). inl e) (λ (e : (z ≡ p) × (kind.Caught ≡ kind.Caught)). inr e.0) (w z j)) (omega (arith, f, g)) (omega (arith, f', g')) in
      let b = catcher i (cap (times r qs) (weight A r)) o (bounded r (times r qs) f) in
      let b' = restorer i (cap (times p qs) (weight A p)) (bounded p (times p qs) f') in
      omega (arith, h, b, b')
  fits i kind.Popped qs w t n o =
      let r = popped i in
      let f = t r in
      let g = own_once r in
      let h = one_place A r qs (alone i kind.Popped qs (λ e. cc) w) (omega (arith, f, g)) in
      let b = restorer i (cap (times r qs) (weight A r)) (bounded r (times r qs) f) in
      omega (arith, h, b, o)
  fits i kind.Eq qs w t n o = absurd (n refl)

  site_least : (r : Point) → (S r ≡ 0) ⊎ (least_words r.kind ≤ S r)
  site_least r = by (find_site q.sites r) refl
    where
      by : (o : Option Site) → find_site q.sites r ≡ o → (outward (around (length q.sites) left q.sites) (find_site q.sites r) ≡ 0) ⊎ (least_words r.kind ≤ outward (around (length q.sites) left q.sites) (find_site q.sites r))
      by None e = inl (ap (outward (around (length q.sites) left q.sites)) e)
      by (Some t) e =
          let f = site_found q.sites r t e in
          let m : least_words r.kind ≤ t.words = subst (λ (p : Point). least_words p.kind ≤ t.words) f.1 (s.fit.least t f.0) in
          inr (subst (λ o. least_words r.kind ≤ outward (around (length q.sites) left q.sites) o) (sym e) (omega (arith, m)))

  framed : (p : Point) → Within p.node (caught_kind p.kind) (of_site A q.sites left own p)
  framed p r i =
      let f = filtered_in (λ z. is_point (frame_point z) (frame_point p)) own r i in
      unframed r.node r.kind (frame_point p) (point_eq (frame_point r) (frame_point p) f.1)

  no_eq_frame : (k : PointKind) → (k ≡ kind.Eq → ⊥) → caught_kind k ≡ kind.Eq → ⊥
  no_eq_frame kind.Fn n e = cc
  no_eq_frame kind.Ret n e = cc
  no_eq_frame kind.Caught n e = cc
  no_eq_frame kind.Popped n e = cc
  no_eq_frame kind.Eq n e = n refl

  one_factor : (p : Point) → (p.kind ≡ kind.Eq → ⊥) → factor_at A q.sites left own p ≤ 4
  one_factor p n = ⊎_elim
      (λ (z : S (frame_point p) ≡ 0). subst (λ m. quotient (closed_words A q.sites left own p) m ≤ 4) (sym z) (omega arith))
      (λ (o : least_words (caught_kind p.kind) ≤ S (frame_point p)).
      let w = in_total A q.sites left (of_site A q.sites left own p) in
      let f = fits p.node (caught_kind p.kind) (of_site A q.sites left own p) (framed p) (λ r. filtered_times (λ z. is_point (frame_point z) (frame_point p)) r own) (no_eq_frame p.kind n) o in
      small_quotient (closed_words A q.sites left own p) (S (frame_point p)) (omega (arith, w, f)))
      (site_least (frame_point p))

  every : (ps : List Point) → ((p : Point) → IsAmong p ps → p.kind ≡ kind.Eq → ⊥) → greatest A q.sites left own ps ≤ 4
  every [] n = omega arith
  every (p ∷ ps) n = max-le (one_factor p (n p (inl refl))) (every ps (λ r i. n r (inr i)))

  no_eq : (p : Point) → IsAmong p own → p.kind ≡ kind.Eq → ⊥
  no_eq p i e =
      let t = label_times p own (label_of p own i) in
      let l = own_layout p (omega (arith, t)) in
      s.functions l.0 l.1 (ap (λ (r : Point). r.kind) l.2 ∙ e)

  within_4 : (plan fresh q).factor ≤ 4
  within_4 = every own no_eq

pub factor_at_most_4 : FactorIsAtMost4
factor_at_most_4 fresh q d s = within_4 fresh q d s
