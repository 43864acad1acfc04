-- The rows of classes by label, and what all classes have.
use Rattle.std.proofs.Common.{◌≡◌, ℕ, zero, suc, ◌+◌, ◌-◌, ◌<◌, ◌≤◌, Bool, true, false, List, [], ◌∷◌, ◌++◌, length, take, drop, replicate, refl, sym, ap, ◌∙◌, subst, arith}
use Rattle.std.specs.Prelude.{nat_eq, cond, ◌&&◌, ◌||◌, slice_index_or}
use Rattle.std.specs.List.{list_any, AllByRecursion}
use Rattle.std.specs.BTreeSet.{BTreeSet}
use Rattle.std.proofs.Math.Seq.{take-suc, drop-cons}
use Rattle.std.proofs.lemmas.Option.{unwrap_or-slice_get}
use Rattle.std.proofs.lemmas.List.{get_or-replicate}
use Rattle.smlc_base.specs.declared.point.Label.{Label}
use Rattle.sml_tree.specs.IsBare.{IsAscending}
use Rattle.sml_tree.specs.Sets.{has, union, union_over, row_at}
use Rattle.sml_tree.proofs.Members.{has-union}
use Rattle.cps_free.specs.Same.{AreSame}
use Rattle.cps_free.proofs.Sets.{one_list}
use Rattle.cps_free.proofs.Steps.{over_more, union_none, same_trans}
use Rattle.lifetime_users.specs.declared.class.Class.{Class}
use Rattle.close_laws.specs.Layouts.{uses_class, classes_of}
use Rattle.variable_users.specs.Rows.{rows_of}
use Rattle.closure_layouts.specs.Tables.{has_number, AreNumbered, AreClassRows}

pub put_back : (xs : List ℕ) (i d : ℕ) (old mid new : List ℕ) → 0 < i → i ≤ length xs → AreSame mid (union (drop i xs) old) → AreSame new (union (slice_index_or xs (i - 1) d ∷ []) mid) → AreSame new (union (drop (i - 1) xs) old)
put_back xs i d old mid new pos le m n z =
    let x = slice_index_or xs (i - 1) d in
    let next : suc (i - 1) ≡ i = omega arith in
    let front : drop (i - 1) xs ≡ x ∷ drop i xs = drop-cons xs (i - 1) d (omega arith) ∙ ap (λ k. x ∷ drop k xs) next in
    n z ∙ has-union (x ∷ []) mid z ∙ ap (λ b. (nat_eq z x || false) || b) (m z ∙ has-union (drop i xs) old z)
    ∙ by (nat_eq z x) (has (drop i xs) z) (has old z)
    ∙ sym (has-union (x ∷ drop i xs) old z) ∙ ap (λ ys. has (union ys old) z) (sym front)
  where
    by : (a b c : Bool) → ((a || false) || (b || c)) ≡ ((a || b) || c)
    by true b c = refl
    by false b c = refl

pub shared_more : (classes : List Class) (i : ℕ) (vars : List ℕ) (d k : Class) (old new : List ℕ) → i < length classes → k ≡ slice_index_or classes i d → vars ≡ k.vars → AreSame old (union_over (λ (j : Class). j.vars) (take i classes)) → AreSame new (union vars old) → AreSame new (union_over (λ (j : Class). j.vars) (take (i + 1) classes))
shared_more classes i vars d k old new lt e f h g =
    same_trans new (union (union_over F (take (i + 1) classes)) []) (union_over F (take (i + 1) classes))
    (over_more F classes i d k [] old new lt e (same_trans old (union_over F (take i classes)) (union (union_over F (take i classes)) []) h (λ z. sym (union_none (union_over F (take i classes)) [] refl z))) (subst (λ us. AreSame new (union us old)) f g))
    (union_none (union_over F (take (i + 1) classes)) [] refl)
  where
    F : Class → List ℕ
    F j = j.vars

-- ---- Numbers of classes

eq_sym : (x y : ℕ) → nat_eq x y ≡ nat_eq y x
eq_sym x y = grind arith

any_append : {X : Type 0} (f : X → Bool) (xs : List X) (x : X) → list_any f (xs ++ x ∷ []) ≡ (f x || list_any f xs)
any_append f [] x = refl
any_append f (y ∷ xs) x = ap (λ b. f y || b) (any_append f xs x) ∙ swap (f y) (f x) (list_any f xs)
  where
    swap : (a b c : Bool) → (a || (b || c)) ≡ (b || (a || c))
    swap true true c = refl
    swap true false c = refl
    swap false true c = refl
    swap false false c = refl

pub user_more : (users : List Label) (i : ℕ) (d u : Label) (n y z : ℕ) (old mid new : List (List ℕ)) → i < length users → u ≡ slice_index_or users i d → has (row_at mid y) z ≡ ((list_any (λ (v : Label). nat_eq v.0 y) (take i users) && nat_eq z n) || has (row_at old y) z) → has (row_at new y) z ≡ ((nat_eq y u.0 && nat_eq z n) || has (row_at mid y) z) → has (row_at new y) z ≡ ((list_any (λ (v : Label). nat_eq v.0 y) (take (i + 1) users) && nat_eq z n) || has (row_at old y) z)
user_more users i d u n y z old mid new lt e m g =
    let U : Label → Bool = (λ (v : Label). nat_eq v.0 y) in
    let next : suc i ≡ i + 1 = omega arith in
    g ∙ ap (λ b. (b && nat_eq z n) || has (row_at mid y) z) (eq_sym y u.0)
    ∙ ap (λ b. (U u && nat_eq z n) || b) m
    ∙ spread (U u) (nat_eq z n) (list_any U (take i users)) (has (row_at old y) z)
    ∙ ap (λ b. (b && nat_eq z n) || has (row_at old y) z) (sym (any_append U (take i users) u) ∙ ap (λ (v : Label). list_any U (take i users ++ v ∷ [])) e ∙ ap (list_any U) (sym (take-suc users i d lt)))
    ∙ ap (λ k. (list_any U (take k users) && nat_eq z n) || has (row_at old y) z) next
  where
    spread : (e l t o : Bool) → ((e && l) || ((t && l) || o)) ≡ (((e || t) && l) || o)
    spread true true t o = refl
    spread true false true o = refl
    spread true false false o = refl
    spread false l t o = refl

number_append : (n : ℕ) (ks : List Class) (k : Class) (label z : ℕ) → has_number n (ks ++ k ∷ []) label z ≡ ((uses_class label k && nat_eq z (n + length ks)) || has_number n ks label z)
number_append n [] k label z = let e : n ≡ n + 0 = omega arith in ap (λ m. (uses_class label k && nat_eq z m) || false) e
number_append n (j ∷ ks) k label z =
    let e : suc n + length ks ≡ n + suc (length ks) = omega arith in
    ap (λ b. (uses_class label j && nat_eq z n) || b) (number_append (suc n) ks k label z ∙ ap (λ m. (uses_class label k && nat_eq z m) || has_number (suc n) ks label z) e)
    ∙ swap (uses_class label j && nat_eq z n) (uses_class label k && nat_eq z (n + suc (length ks))) (has_number (suc n) ks label z)
  where
    swap : (a b c : Bool) → (a || (b || c)) ≡ (b || (a || c))
    swap true true c = refl
    swap true false c = refl
    swap false true c = refl
    swap false false c = refl

length_taken : {X : Type 0} (i : ℕ) (xs : List X) → i ≤ length xs → length (take i xs) ≡ i
length_taken zero xs h = refl
length_taken (suc i) [] h = absurd (omega (arith, h))
length_taken (suc i) (x ∷ xs) h = ap suc (length_taken i xs (omega (arith, h)))

length_rows : (sets : List (BTreeSet ℕ)) → length (rows_of sets) ≡ length sets
length_rows [] = refl
length_rows (s ∷ sets) = ap suc (length_rows sets)

length_none : (n : ℕ) → length (replicate {A = List ℕ} n []) ≡ n
length_none zero = refl
length_none (suc n) = ap suc (length_none n)

pub none_numbered : (n : ℕ) (sets : List (BTreeSet ℕ)) → rows_of sets ≡ replicate n [] → AreNumbered [] n (rows_of sets)
none_numbered n sets e = record {
  len = ap length e ∙ length_none n;
  put = λ label z h. ap (λ rows. has (row_at rows label) z) e ∙ ap (λ row. has row z) (unwrap_or-slice_get (replicate n []) label [] ∙ get_or-replicate n label [] [] h);
}

pub class_put : (classes : List Class) (i n number : ℕ) (users : List Label) (d k : Class) (old new : List (BTreeSet ℕ)) → i < length classes → k ≡ slice_index_or classes i d → users ≡ k.users → number ≡ i → length new ≡ length old → ((y z : ℕ) → y < length old → has (row_at (rows_of new) y) z ≡ ((list_any (λ (u : Label). nat_eq u.0 y) users && nat_eq z number) || has (row_at (rows_of old) y) z)) → AreNumbered (take i classes) n (rows_of old) → AreNumbered (take (i + 1) classes) n (rows_of new)
class_put classes i n number users d k old new lt e f g len m r =
    let next : suc i ≡ i + 1 = omega arith in
    subst (λ j. AreNumbered (take j classes) n (rows_of new)) next
    (subst (λ ks. AreNumbered ks n (rows_of new)) (ap (λ (j : Class). take i classes ++ j ∷ []) e ∙ sym (take-suc classes i d lt))
    (record {
      len = length_rows new ∙ len ∙ sym (length_rows old) ∙ r.len;
      put = λ label z h.
          m label z (omega (arith, h, r.len, length_rows old))
          ∙ ap (λ us. (list_any (λ (u : Label). nat_eq u.0 label) us && nat_eq z number) || has (row_at (rows_of old) label) z) f
          ∙ ap (λ j. (uses_class label k && nat_eq z j) || has (row_at (rows_of old) label) z) (g ∙ sym (length_taken i classes (omega (arith, lt))))
          ∙ ap (λ b. (uses_class label k && nat_eq z (length (take i classes))) || b) (r.put label z h)
          ∙ zero_plus label z
          ∙ sym (number_append 0 (take i classes) k label z);
    }))
  where
    zero_plus : (label z : ℕ) → ((uses_class label k && nat_eq z (length (take i classes))) || has_number 0 (take i classes) label z) ≡ ((uses_class label k && nat_eq z (0 + length (take i classes))) || has_number 0 (take i classes) label z)
    zero_plus label z = let same : length (take i classes) ≡ 0 + length (take i classes) = omega arith in ap (λ j. (uses_class label k && nat_eq z j) || has_number 0 (take i classes) label z) same

-- ---- The rows are the classes

pub numbers_ascend : (n label : ℕ) (ks : List Class) → IsAscending n (classes_of n label ks)
numbers_ascend n label [] = tt
numbers_ascend n label (k ∷ ks) = by (uses_class label k) (numbers_ascend (suc n) label ks)
  where
    lower : (xs : List ℕ) → IsAscending (suc n) xs → IsAscending n xs
    lower [] a = tt
    lower (x ∷ xs) a = (let h : suc n ≤ x = a.0 in omega (arith, h), a.1)

    by : (b : Bool) → IsAscending (suc n) (classes_of (suc n) label ks) → IsAscending n (cond b (n ∷ classes_of (suc n) label ks) (classes_of (suc n) label ks))
    by true a = (omega arith, a)
    by false a = lower (classes_of (suc n) label ks) a

numbers_has : (n label z : ℕ) (ks : List Class) → has (classes_of n label ks) z ≡ has_number n ks label z
numbers_has n label z [] = refl
numbers_has n label z (k ∷ ks) = by (uses_class label k) (numbers_has (suc n) label z ks)
  where
    by : (b : Bool) → has (classes_of (suc n) label ks) z ≡ has_number (suc n) ks label z → has (cond b (n ∷ classes_of (suc n) label ks) (classes_of (suc n) label ks)) z ≡ ((b && nat_eq z n) || has_number (suc n) ks label z)
    by true e = ap (λ t. nat_eq z n || t) e
    by false e = e

ascend_at : (rows : List (List ℕ)) (x : ℕ) → AllByRecursion (IsAscending 0) rows → IsAscending 0 (row_at rows x)
ascend_at [] x h = tt
ascend_at (r ∷ rows) zero h = h.0
ascend_at (r ∷ rows) (suc x) h = ascend_at rows x h.1

pub are_class_rows : (classes : List Class) (n : ℕ) (rows : List (List ℕ)) → AreNumbered classes n rows → AllByRecursion (IsAscending 0) rows → AreClassRows classes n rows
are_class_rows classes n rows p a = record {
  len = p.len;
  at = λ label h. one_list 0 (row_at rows label) (classes_of 0 label classes) (ascend_at rows label a) (numbers_ascend 0 label classes) (λ z. p.put label z h ∙ sym (numbers_has 0 label z classes));
}
