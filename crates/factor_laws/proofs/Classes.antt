-- The records that a closure names have variables that it holds, and no variable is in two of them.
use Rattle.std.proofs.Common.{◌≡◌, ℕ, suc, ◌+◌, ◌*◌, ◌≤◌, List, [], ◌∷◌, ◌++◌, map, length, Bool, true, false, cond, not, ◌&&◌, ◌||◌, Option, Some, None, inl, inr, refl, sym, ap, ◌∙◌, subst, arith, ⊎_elim, eqb-true, nat_eq}
use Rattle.std.specs.Prelude.{filter, if◌then◌else◌, slice_get, nat_le}
use Rattle.std.specs.List.{list_any}
use Rattle.std.proofs.lemmas.Bool.{leb-true}
use Rattle.smlc_base.specs.declared.point.Label.{Label}
use Rattle.simulation.specs.Blocks.{IsAmong}
use Rattle.simulation.proofs.Lists.{among_left, among_right, among_append}
use Rattle.sml_tree.specs.Sets.{has, union_over, without}
use Rattle.cps_ir.specs.Code.{Code, Make, Pick, Prim, Equal, Fix, Call, Match, Handler, SetHandler, Throw, Halt, Functions, NoFunction, Function, Rules, Otherwise, Rule}
use Rattle.cps_ir.specs.Slim.{Layout}
use Rattle.lifetime_users.specs.Users.{label_in, Binding, binding, bindings, bindings_functions, bindings_rules, home_of, same_home, users, same_numbers, begins_with, variables, live_together, companions, leads, class_of, classes_among}
use Rattle.close_laws.specs.Layouts.{Facts, uses_class, classes_of, in_class, vars_in, class_vars, record_words}
use Rattle.label_order.proofs.Ranks.{one_point}
use Rattle.closure_layouts.specs.Found.{PointedOnce}
use Rattle.contract_laws.proofs.Free.{In, in_cases, in_head, in_tail, in_among, among_in, in_union, in_without}
use Rattle.contract_laws.proofs.Pigeon.{Distinct, pigeon}
use Rattle.contract_slim.proofs.Fair.{plain, plain_functions, plain_rules}
use Rattle.contract_slim.proofs.Slim.{kept_in, in_kept, ascending_distinct}
use Rattle.sml_tree.proofs.AscendingSets.{one_ascending, over_ascending}

-- ---- Tests

and_both : (a b : Bool) → (a && b) ≡ true → (a ≡ true) × (b ≡ true)
and_both true b e = (refl, e)
and_both false b e = absurd (cc)

same_homes : (h k : Option ℕ) → same_home h k ≡ true → h ≡ k
same_homes None None e = refl
same_homes None (Some k) e = absurd (cc)
same_homes (Some h) None e = absurd (cc)
same_homes (Some h) (Some k) e = ap Some (eqb-true h k e)

same_lists : (ms ns : List ℕ) → same_numbers ms ns ≡ true → ms ≡ ns
same_lists [] [] e = refl
same_lists [] (n ∷ ns) e = absurd (cc)
same_lists (m ∷ ms) [] e = absurd (cc)
same_lists (m ∷ ms) (n ∷ ns) e =
    let b = and_both (nat_eq m n) (same_numbers ms ns) e in
    ap (λ t. t ∷ ms) (eqb-true m n b.0) ∙ ap (λ ts. n ∷ ts) (same_lists ms ns b.1)

filter_same : (P Q : ℕ → Bool) → ((x : ℕ) → P x ≡ Q x) → (xs : List ℕ) → filter P xs ≡ filter Q xs
filter_same P Q h [] = refl
filter_same P Q h (x ∷ xs) = by (P x) (Q x) (h x) (filter_same P Q h xs)
  where
    by : (a b : Bool) → a ≡ b → filter P xs ≡ filter Q xs → (if a then x ∷ filter P xs else filter P xs) ≡ (if b then x ∷ filter Q xs else filter Q xs)
    by true true e f = ap (λ ys. x ∷ ys) f
    by false false e f = f
    by true false e f = absurd (cc)
    by false true e f = absurd (cc)

distinct_kept : (P : ℕ → Bool) (xs : List ℕ) → Distinct xs → Distinct (filter P xs)
distinct_kept P [] d = tt
distinct_kept P (x ∷ xs) d = by (P x) (distinct_kept P xs d.1)
  where
    by : (a : Bool) → Distinct (filter P xs) → Distinct (if a then x ∷ filter P xs else filter P xs)
    by true r = ((λ i. d.0 (in_among x xs (kept_in P xs x (among_in x (filter P xs) i)).1)), r)
    by false r = r

distinct_join : (xs ys : List ℕ) → Distinct xs → Distinct ys → ((z : ℕ) → IsAmong z xs → IsAmong z ys → ⊥) → Distinct (xs ++ ys)
distinct_join [] ys d e n = e
distinct_join (x ∷ xs) ys d e n =
    ((λ i. ⊎_elim (λ (j : IsAmong x xs). d.0 j) (λ (j : IsAmong x ys). n x (inl refl) j) (among_append x xs ys i)), distinct_join xs ys d.1 e (λ z i j. n z (inr i) j))

begins_one : (x y : ℕ) (zs : List ℕ) → begins_with x zs ≡ true → begins_with y zs ≡ true → x ≡ y
begins_one x y [] e f = absurd (cc)
begins_one x y (z ∷ zs) e f = eqb-true x z e ∙ sym (eqb-true y z f)

length_join : (xs ys : List ℕ) → length (xs ++ ys) ≡ length xs + length ys
length_join [] ys = omega arith
length_join (x ∷ xs) ys = let h = length_join xs ys in omega (arith, h)

-- what a test keeps and what it doesn't
parts : (P : ℕ → Bool) (xs : List ℕ) → length (filter P xs) + length (filter (λ x. not (P x)) xs) ≡ length xs
parts P [] = refl
parts P (x ∷ xs) = by (P x) (parts P xs)
  where
    by : (a : Bool) → length (filter P xs) + length (filter (λ y. not (P y)) xs) ≡ length xs → length (if a then x ∷ filter P xs else filter P xs) + length (if not a then x ∷ filter (λ y. not (P y)) xs else filter (λ y. not (P y)) xs) ≡ suc (length xs)
    by true h = omega (arith, h)
    by false h = omega (arith, h)

or_first : (a b : Bool) → a ≡ true → (a || b) ≡ true
or_first true b e = refl
or_first false b e = absurd (cc)

or_later : (a b : Bool) → b ≡ true → (a || b) ≡ true
or_later true b e = refl
or_later false b e = e

one_item : (x y : ℕ) → In x (y ∷ []) → x ≡ y
one_item x y h = ⊎_elim (λ (e : x ≡ y). e) (λ (e : In x []). absurd (cc)) (in_cases x y [] h)

-- ---- Variables

abbrev var_of : Binding → ℕ
var_of b = b.var

param_plain : (home : Option ℕ) (xs : List ℕ) (b : Binding) → IsAmong b (map (binding home) xs) → IsAmong b.var xs
param_plain h [] b i = absurd i
param_plain h (x ∷ xs) b (inl e) = inl (ap var_of e)
param_plain h (x ∷ xs) b (inr i) = inr (param_plain h xs b i)

mutual
  bound_plain : (home : Option ℕ) (c : Code) (b : Binding) → IsAmong b (bindings home c) → IsAmong b.var (plain c)
  bound_plain h (Make x s atoms c) b (inl e) = inl (ap var_of e)
  bound_plain h (Make x s atoms c) b (inr i) = inr (bound_plain h c b i)
  bound_plain h (Pick x n a c) b (inl e) = inl (ap var_of e)
  bound_plain h (Pick x n a c) b (inr i) = inr (bound_plain h c b i)
  bound_plain h (Prim x f atoms c) b (inl e) = inl (ap var_of e)
  bound_plain h (Prim x f atoms c) b (inr i) = inr (bound_plain h c b i)
  bound_plain h (Equal a d t k) b i = absurd i
  bound_plain h (Fix fs c) b i = ⊎_elim
      (λ (j : IsAmong b (bindings_functions fs)). among_left b.var (plain_functions fs) (plain c) (bound_plain_in fs b j))
      (λ (j : IsAmong b (bindings h c)). among_right b.var (plain_functions fs) (plain c) (bound_plain h c b j))
      (among_append b (bindings_functions fs) (bindings h c) i)
  bound_plain h (Call a atoms) b i = absurd i
  bound_plain h (Match a rules) b i = bound_plain_rules h rules b i
  bound_plain h (Handler x c) b (inl e) = inl (ap var_of e)
  bound_plain h (Handler x c) b (inr i) = inr (bound_plain h c b i)
  bound_plain h (SetHandler a c) b i = bound_plain h c b i
  bound_plain h (Throw a) b i = absurd i
  bound_plain h Halt b i = absurd i

  bound_plain_in : (fs : Functions) (b : Binding) → IsAmong b (bindings_functions fs) → IsAmong b.var (plain_functions fs)
  bound_plain_in NoFunction b i = absurd i
  bound_plain_in (Function f p params body fs) b i = ⊎_elim
      (λ (j : IsAmong b (map (binding (Some f)) params)). among_left b.var params (plain body ++ plain_functions fs) (param_plain (Some f) params b j))
      (λ (j : IsAmong b (bindings (Some f) body ++ bindings_functions fs)). among_right b.var params (plain body ++ plain_functions fs) (⊎_elim
      (λ (k : IsAmong b (bindings (Some f) body)). among_left b.var (plain body) (plain_functions fs) (bound_plain (Some f) body b k))
      (λ (k : IsAmong b (bindings_functions fs)). among_right b.var (plain body) (plain_functions fs) (bound_plain_in fs b k))
      (among_append b (bindings (Some f) body) (bindings_functions fs) j)))
      (among_append b (map (binding (Some f)) params) (bindings (Some f) body ++ bindings_functions fs) i)

  bound_plain_rules : (home : Option ℕ) (rs : Rules) (b : Binding) → IsAmong b (bindings_rules home rs) → IsAmong b.var (plain_rules rs)
  bound_plain_rules h (Otherwise c) b i = bound_plain h c b i
  bound_plain_rules h (Rule ts c rs) b i = ⊎_elim
      (λ (j : IsAmong b (bindings h c)). among_left b.var (plain c) (plain_rules rs) (bound_plain h c b j))
      (λ (j : IsAmong b (bindings_rules h rs)). among_right b.var (plain c) (plain_rules rs) (bound_plain_rules h rs b j))
      (among_append b (bindings h c) (bindings_rules h rs) i)

over_some : {X : Type 0} (F : X → List ℕ) (xs : List X) (z : ℕ) → In z (union_over F xs) → (x : X) × IsAmong x xs × In z (F x)
over_some F [] z h = absurd (cc)
over_some {X} F (x ∷ xs) z h = ⊎_elim
    (λ (j : In z (F x)). (x, inl refl, j))
    (λ (j : In z (union_over F xs)). let r = over_some F xs z j in (r.0, inr r.1, r.2))
    (in_union z (F x) (union_over F xs) h)

pub variable_plain : (c : Code) (all : List Layout) (z : ℕ) → In z (variables all (bindings None c)) → IsAmong z (plain c)
variable_plain c all z h =
    let r = over_some (λ (b : Binding). b.var ∷ []) (bindings None c) z h in
    ⊎_elim (λ (e : z ≡ r.0.var). subst (λ t. IsAmong t (plain c)) (sym e) (bound_plain None c r.0 r.1)) (λ (e : In z []). absurd (cc)) (in_cases z r.0.var [] r.2)

-- ---- Classes of a label

three_at_least : (n : ℕ) → nat_le 3 n ≡ true → 3 ≤ n
three_at_least n e = leb-true 3 n e

abbrev as_label : ℕ → Label
as_label l = record { 0 = l }

label_used : (lab : ℕ) (us : List ℕ) → list_any (λ (u : Label). nat_eq u.0 lab) (map as_label us) ≡ true → In lab us
label_used lab [] e = absurd (cc)
label_used lab (u ∷ us) e = by (nat_eq u lab) refl (label_used lab us) e
  where
    by : (b : Bool) → nat_eq u lab ≡ b → (list_any (λ (v : Label). nat_eq v.0 lab) (map as_label us) ≡ true → In lab us) → (b || list_any (λ (v : Label). nat_eq v.0 lab) (map as_label us)) ≡ true → In lab (u ∷ us)
    by true g f h = in_head lab u us (sym (eqb-true u lab g))
    by false g f h = in_tail lab u us (f h)

module _ (all : List Layout) (bound : List Binding) (lab : ℕ) where
  abbrev used : ℕ → Bool
  used x = uses_class lab (class_of all bound x)

  -- how many classes the label uses, and the variables that these have
  abbrev count : List ℕ → ℕ
  count [] = 0
  count (x ∷ xs) = cond (used x) (suc (count xs)) (count xs)

  abbrev held : List ℕ → List ℕ
  held [] = []
  held (x ∷ xs) = cond (used x) (companions all bound x ++ held xs) (held xs)

  abbrev Lead : List ℕ → Type 0
  Lead xs = (x : ℕ) → IsAmong x xs → leads all bound x ≡ true

  abbrev Of : ℕ → List ℕ → Type 0
  Of z ys = (x : ℕ) × IsAmong x ys × (used x ≡ true) × IsAmong z (companions all bound x)

  held_of : (xs : List ℕ) (z : ℕ) → IsAmong z (held xs) → Of z xs
  held_of [] z i = absurd i
  held_of (x ∷ xs) z i = by (used x) refl (held_of xs z) i
    where
      by : (b : Bool) → used x ≡ b → (IsAmong z (held xs) → Of z xs) → IsAmong z (cond b (companions all bound x ++ held xs) (held xs)) → Of z (x ∷ xs)
      by true e f j = ⊎_elim (λ (k : IsAmong z (companions all bound x)). (x, inl refl, e, k)) (λ (k : IsAmong z (held xs)). let r = f k in (r.0, inr r.1, r.2, r.3)) (among_append z (companions all bound x) (held xs) j)
      by false e f j = let r = f j in (r.0, inr r.1, r.2, r.3)

  companions_same : (x y z : ℕ) → live_together all bound x z ≡ true → live_together all bound y z ≡ true → companions all bound x ≡ companions all bound y
  companions_same x y z e f =
      let a = and_both (same_home (home_of bound x) (home_of bound z)) (same_numbers (users all x) (users all z)) e in
      let b = and_both (same_home (home_of bound y) (home_of bound z)) (same_numbers (users all y) (users all z)) f in
      let home : home_of bound x ≡ home_of bound y = same_homes (home_of bound x) (home_of bound z) a.0 ∙ sym (same_homes (home_of bound y) (home_of bound z) b.0) in
      let user : users all x ≡ users all y = same_lists (users all x) (users all z) a.1 ∙ sym (same_lists (users all y) (users all z) b.1) in
      filter_same (live_together all bound x) (live_together all bound y) (λ w. ap (λ h. same_home h (home_of bound w) && same_numbers (users all x) (users all w)) home ∙ ap (λ u. same_home (home_of bound y) (home_of bound w) && same_numbers u (users all w)) user) (variables all bound)

  live_of : (x z : ℕ) → IsAmong z (companions all bound x) → (live_together all bound x z ≡ true) × In z (variables all bound)
  live_of x z i = kept_in (live_together all bound x) (variables all bound) z (among_in z (companions all bound x) i)

  first_of : (x : ℕ) → leads all bound x ≡ true → begins_with x (companions all bound x) ≡ true
  first_of x e = (and_both (begins_with x (companions all bound x)) (nat_le 3 (length (companions all bound x))) (and_both (begins_with x (companions all bound x) && nat_le 3 (length (companions all bound x))) (nat_le 2 (length (users all x))) e).0).0

  many_of : (x : ℕ) → leads all bound x ≡ true → 3 ≤ length (companions all bound x)
  many_of x e =
      three_at_least (length (companions all bound x)) (and_both (begins_with x (companions all bound x)) (nat_le 3 (length (companions all bound x))) (and_both (begins_with x (companions all bound x) && nat_le 3 (length (companions all bound x))) (nat_le 2 (length (users all x))) e).0).1

  one_leader : (x y z : ℕ) → leads all bound x ≡ true → leads all bound y ≡ true → IsAmong z (companions all bound x) → IsAmong z (companions all bound y) → x ≡ y
  one_leader x y z e f i j =
      let same = companions_same x y z (live_of x z i).0 (live_of y z j).0 in
      begins_one x y (companions all bound y) (subst (λ zs. begins_with x zs ≡ true) same (first_of x e)) (first_of y f)

  variables_distinct : Distinct (variables all bound)
  variables_distinct = ascending_distinct 0 (variables all bound) (over_ascending (λ (b : Binding). b.var ∷ []) (λ b. one_ascending b.var) bound)

  held_distinct : (xs : List ℕ) → Distinct xs → Lead xs → Distinct (held xs)
  held_distinct [] d l = tt
  held_distinct (x ∷ xs) d l = by (used x) (held_distinct xs d.1 (λ y i. l y (inr i)))
    where
      by : (b : Bool) → Distinct (held xs) → Distinct (cond b (companions all bound x ++ held xs) (held xs))
      by true r = distinct_join (companions all bound x) (held xs) (distinct_kept (live_together all bound x) (variables all bound) variables_distinct) r
          (λ z i j. let o = held_of xs z j in
          d.0 (subst (λ t. IsAmong t xs) (sym (one_leader x o.0 z (l x (inl refl)) (l o.0 (inr o.1)) i o.3)) o.1))
      by false r = r

  few : (xs : List ℕ) → Lead xs → 3 * count xs ≤ length (held xs)
  few [] l = omega arith
  few (x ∷ xs) l = by (used x) (few xs (λ y i. l y (inr i)))
    where
      by : (b : Bool) → 3 * count xs ≤ length (held xs) → 3 * cond b (suc (count xs)) (count xs) ≤ length (cond b (companions all bound x ++ held xs) (held xs))
      by true h = let e = length_join (companions all bound x) (held xs) in let k = many_of x (l x (inl refl)) in omega (arith, h, e, k)
      by false h = h

  -- the words of the records, and how many they are
  abbrev Recorded : Facts → ℕ → List ℕ → Type 0
  Recorded A n xs = (record_words A (classes_of n lab (map (class_of all bound) xs)) ≡ count xs + length (held xs)) × (length (classes_of n lab (map (class_of all bound) xs)) ≡ count xs)

  recorded : (A : Facts) (n : ℕ) (xs : List ℕ) → ((i : ℕ) → slice_get A.classes (i + n) ≡ slice_get (map (class_of all bound) xs) i) → Recorded A n xs
  recorded A n [] h = (omega arith, refl)
  recorded A n (x ∷ xs) h = by (used x) (recorded A (suc n) xs (λ i. (let e : i + suc n ≡ suc i + n = omega arith in ap (slice_get A.classes) e) ∙ h (suc i)))
    where
      rest : List ℕ
      rest = classes_of (suc n) lab (map (class_of all bound) xs)

      here : class_vars A n ≡ companions all bound x
      here = ap vars_in ((let z : n ≡ 0 + n = omega arith in ap (slice_get A.classes) z) ∙ h 0)

      by : (b : Bool) → Recorded A (suc n) xs → (record_words A (cond b (n ∷ rest) rest) ≡ cond b (suc (count xs)) (count xs) + length (cond b (companions all bound x ++ held xs) (held xs))) × (length (cond b (n ∷ rest) rest) ≡ cond b (suc (count xs)) (count xs))
      by true r =
          let e = length_join (companions all bound x) (held xs) in
          let a : length (class_vars A n) ≡ length (companions all bound x) = ap length here in
          let b = r.0 in
          let c = r.1 in
          (omega (arith, e, a, b), omega (arith, c))
      by false r = r

  class_at : (xs : List ℕ) (x z : ℕ) → IsAmong x xs → In z (companions all bound x) → in_class (map (class_of all bound) xs) z ≡ true
  class_at [] x z i h = absurd i
  class_at (y ∷ xs) x z (inl e) h =
      or_first (has (companions all bound y) z) (in_class (map (class_of all bound) xs) z) (subst (λ t. In z (companions all bound t)) e h)
  class_at (y ∷ xs) x z (inr i) h =
      or_later (has (companions all bound y) z) (in_class (map (class_of all bound) xs) z) (class_at xs x z i h)

  -- ---- What the label's function holds

  module _ (once : PointedOnce all) (l : Layout) (among : IsAmong l all) (is : lab ≡ label_in all l.point) where
    user_holds : (z : ℕ) → In lab (users all z) → In z l.free
    user_holds z h =
        let r = over_some (λ (k : Layout). cond (has k.free z) (label_in all k.point ∷ []) []) all lab h in by r.0 r.1 (has r.0.free z) refl r.2
      where
        by : (k : Layout) → IsAmong k all → (b : Bool) → has k.free z ≡ b → In lab (cond b (label_in all k.point ∷ []) []) → In z l.free
        by k i true e j =
            let at : lab ≡ label_in all k.point = one_item lab (label_in all k.point) j in
            let same : k ≡ l = once k l i among (one_point all k l i among (sym at ∙ is)) in
            subst (λ (t : Layout). In z t.free) same e
        by k i false e j = absurd (cc)

    held_is_free : (xs : List ℕ) (z : ℕ) → IsAmong z (held xs) → In z l.free × In z (variables all bound)
    held_is_free xs z i =
        let r = held_of xs z i in
        let k = live_of r.0 z r.3 in
        let b = and_both (same_home (home_of bound r.0) (home_of bound z)) (same_numbers (users all r.0) (users all z)) k.0 in
        let user : users all r.0 ≡ users all z = same_lists (users all r.0) (users all z) b.1 in
        (user_holds z (subst (λ us. In lab us) user (label_used lab (users all r.0) r.2)), k.1)

    abbrev heads : List ℕ
    heads = filter (leads all bound) (variables all bound)

    lead : Lead heads
    lead x i = (kept_in (leads all bound) (variables all bound) x (among_in x heads i)).0

    -- the words of the records against what the function holds
    pub record Shares (A : Facts) (closed : List ℕ) : Type 0 where
      pub count : ℕ
      pub shared : ℕ
      pub records : record_words A (classes_of 0 lab (classes_among all bound)) ≡ count + shared
      pub named : length (classes_of 0 lab (classes_among all bound)) ≡ count
      pub three : 3 * count ≤ shared
      pub fit : shared + length (filter (λ x. not (in_class (classes_among all bound) x)) (without l.free (l.name ∷ closed))) ≤ length (without l.free (l.name ∷ closed))

    pub shares : (A : Facts) (closed : List ℕ) → A.classes ≡ classes_among all bound → ((z : ℕ) → In z (variables all bound) → In z (l.name ∷ closed) → ⊥) → Shares A closed
    shares A closed e apart =
        let r = recorded A 0 heads (λ i. (let z : i + 0 ≡ i = omega arith in ap (slice_get A.classes) z) ∙ ap (λ ks. slice_get ks i) e) in
        record {
          count = count heads;
          shared = length (held heads);
          records = r.0;
          named = r.1;
          three = few heads lead;
          fit = fits;
        }
      where
        H : List ℕ
        H = without l.free (l.name ∷ closed)

        inside : length (held heads) ≤ length (filter (in_class (classes_among all bound)) (without l.free (l.name ∷ closed)))
        inside = pigeon (λ x y. x ≡ y) (λ x y z g h. sym g ∙ h) (held heads) (filter (in_class (classes_among all bound)) (without l.free (l.name ∷ closed)))
            (held_distinct heads (distinct_kept (leads all bound) (variables all bound) variables_distinct) lead)
            (λ z i. let f = held_is_free heads z i in
            let o = held_of heads z i in
            let m : In z (without l.free (l.name ∷ closed)) = in_without z l.free (l.name ∷ closed) (apart z f.1) f.0 in
            let k : in_class (classes_among all bound) z ≡ true = class_at heads o.0 z o.1 (among_in z (companions all bound o.0) o.3) in
            (z, in_among z (filter (in_class (classes_among all bound)) (without l.free (l.name ∷ closed))) (in_kept (in_class (classes_among all bound)) (without l.free (l.name ∷ closed)) z k m), refl))

        fits : length (held heads) + length (filter (λ x. not (in_class (classes_among all bound) x)) (without l.free (l.name ∷ closed))) ≤ length (without l.free (l.name ∷ closed))
        fits = let p = parts (in_class (classes_among all bound)) (without l.free (l.name ∷ closed)) in let i = inside in omega (arith, p, i)
