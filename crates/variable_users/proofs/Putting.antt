-- Labels that are put into the rows of variables.
use Rattle.std.proofs.Common.{◌≡◌, ℕ, zero, suc, ◌+◌, ◌<◌, ◌≤◌, Bool, true, false, List, [], ◌∷◌, ◌++◌, length, take, replicate, get_or, refl, sym, ap, ◌∙◌, subst, arith, Result, Ok, Err}
use Rattle.std.specs.Prelude.{nat_eq, cond, ◌&&◌, ◌||◌, slice_index_or, slice_set, OnOk}
use Rattle.std.specs.List.{list_any, AllByRecursion}
use Rattle.std.specs.BTreeSet.{BTreeSet}
use Rattle.std.specs.BTreeMap.{is_at}
use Rattle.std.specs.Ordering.{nat_cmp}
use Rattle.std.specs.Cmp.{unsigned_tied}
use Rattle.std.proofs.Math.Seq.{take-suc}
use Rattle.std.proofs.lemmas.Bool.{eqb-true}
use Rattle.std.proofs.lemmas.Option.{unwrap_or-slice_get}
use Rattle.std.proofs.lemmas.List.{map-set, get_or-map, get_or-set_same, get_or-set_other, get_or-replicate, map-append, take_all}
use Rattle.sml_tree.specs.IsBare.{IsAscending}
use Rattle.sml_tree.specs.Sets.{has, union, union_over, row_at}
use Rattle.sml_tree.proofs.Members.{has-union}
use Rattle.sml_tree.proofs.AscendingSets.{one_ascending, over_ascending}
use Rattle.cps_ir.specs.Slim.{Layout}
use Rattle.cps_free.specs.Same.{AreSame}
use Rattle.cps_free.proofs.Sets.{one_list}
use Rattle.lifetime_users.specs.Users.{label_in, users}
use Rattle.variable_users.specs.Rows.{rows_of, ArePut, AreUsers}

-- ---- One set of many

row_is : (rows : List (List ℕ)) (x : ℕ) → row_at rows x ≡ get_or rows x []
row_is rows x = unwrap_or-slice_get rows x []

row_of : (sets : List (BTreeSet ℕ)) (x : ℕ) (d : BTreeSet ℕ) → x < length sets → row_at (rows_of sets) x ≡ (slice_index_or sets x d).keys
row_of sets x d h = row_is (rows_of sets) x ∙ get_or-map (λ (s : BTreeSet ℕ). s.keys) sets x d [] h

length_rows : (sets : List (BTreeSet ℕ)) → length (rows_of sets) ≡ length sets
length_rows [] = refl
length_rows (s ∷ sets) = ap suc (length_rows sets)

pub put_one : (sets : List (BTreeSet ℕ)) (x label y z : ℕ) (old new : BTreeSet ℕ) → x < length sets → old ≡ slice_index_or sets x old → AreSame new.keys (union (label ∷ []) old.keys) → has (row_at (rows_of (slice_set sets x new)) y) z ≡ ((nat_eq y x && nat_eq z label) || has (row_at (rows_of sets) y) z)
put_one sets x label y z old new lt e s = by (nat_eq y x) refl
  where
    moved : rows_of (slice_set sets x new) ≡ slice_set (rows_of sets) x new.keys
    moved = map-set (λ (s : BTreeSet ℕ). s.keys) sets x new

    within : x < length (rows_of sets)
    within = omega (arith, lt, length_rows sets)

    joined : (a b : Bool) → ((a || false) || b) ≡ (a || b)
    joined true b = refl
    joined false b = refl

    by : (b : Bool) → nat_eq y x ≡ b → has (row_at (rows_of (slice_set sets x new)) y) z ≡ ((b && nat_eq z label) || has (row_at (rows_of sets) y) z)
    by true f =
        let same : y ≡ x = eqb-true y x f in
        ap (λ i. has (row_at (rows_of (slice_set sets x new)) i) z) same
        ∙ ap (λ rows. has (row_at rows x) z) moved
        ∙ ap (λ row. has row z) (row_is (slice_set (rows_of sets) x new.keys) x ∙ get_or-set_same (rows_of sets) x new.keys [] within)
        ∙ s z
        ∙ has-union (label ∷ []) old.keys z
        ∙ joined (nat_eq z label) (has old.keys z)
        ∙ ap (λ row. nat_eq z label || has row z) (ap (λ (t : BTreeSet ℕ). t.keys) e ∙ sym (row_of sets x old lt))
        ∙ ap (λ i. nat_eq z label || has (row_at (rows_of sets) i) z) (sym same)
    by false f =
        ap (λ rows. has (row_at rows y) z) moved
        ∙ ap (λ row. has row z) (row_is (slice_set (rows_of sets) x new.keys) y ∙ get_or-set_other (rows_of sets) x y new.keys [] (λ g. let h : nat_eq y x ≡ true = grind (arith, g) in let k : false ≡ true = sym f ∙ h in cc) ∙ sym (row_is (rows_of sets) y))

pub past_one : (x label y z : ℕ) (sets : List (BTreeSet ℕ)) → length sets ≤ x → y < length sets → has (row_at (rows_of sets) y) z ≡ ((nat_eq y x && nat_eq z label) || has (row_at (rows_of sets) y) z)
past_one x label y z sets past lt =
    let other : nat_eq y x ≡ false = grind (arith, past, lt) in
    sym (ap (λ b. (b && nat_eq z label) || has (row_at (rows_of sets) y) z) other)

-- ---- One variable more, one function more

has_append : (xs ys : List ℕ) (z : ℕ) → has (xs ++ ys) z ≡ (has xs z || has ys z)
has_append [] ys z = refl
has_append (x ∷ xs) ys z = ap (λ b. nat_eq z x || b) (has_append xs ys z) ∙ assoc (nat_eq z x) (has xs z) (has ys z)
  where
    assoc : (a b c : Bool) → (a || (b || c)) ≡ ((a || b) || c)
    assoc true b c = refl
    assoc false b c = refl

pub put_more : (free : List ℕ) (i d : ℕ) (label y z : ℕ) (old mid new : List (List ℕ)) → i < length free → has (row_at mid y) z ≡ ((has (take i free) y && nat_eq z label) || has (row_at old y) z) → has (row_at new y) z ≡ ((nat_eq y (slice_index_or free i d) && nat_eq z label) || has (row_at mid y) z) → has (row_at new y) z ≡ ((has (take (i + 1) free) y && nat_eq z label) || has (row_at old y) z)
put_more free i d label y z old mid new lt m n =
    let x = slice_index_or free i d in
    let next : suc i ≡ i + 1 = omega arith in
    n ∙ ap (λ b. (nat_eq y x && nat_eq z label) || b) m
    ∙ spread (nat_eq y x) (nat_eq z label) (has (take i free) y) (has (row_at old y) z)
    ∙ ap (λ b. (b && nat_eq z label) || has (row_at old y) z) (sym (has_append (take i free) (x ∷ []) y) ∙ ap (λ xs. has xs y) (sym (take-suc free i d lt)))
    ∙ ap (λ k. (has (take k free) y && nat_eq z label) || has (row_at old y) z) next
  where
    spread : (e l t o : Bool) → ((e && l) || ((t && l) || o)) ≡ (((t || (e || false)) && l) || o)
    spread true true true o = refl
    spread true true false o = refl
    spread true false true o = refl
    spread true false false o = refl
    spread false true true o = refl
    spread false true false o = refl
    spread false false true o = refl
    spread false false false o = refl

any_append : {X : Type 0} (f : X → Bool) (xs : List X) (x : X) → list_any f (xs ++ x ∷ []) ≡ (f x || list_any f xs)
any_append f [] x = refl
any_append f (y ∷ xs) x = ap (λ b. f y || b) (any_append f xs x) ∙ swap (f y) (f x) (list_any f xs)
  where
    swap : (a b c : Bool) → (a || (b || c)) ≡ (b || (a || c))
    swap true true c = refl
    swap true false c = refl
    swap false true c = refl
    swap false false c = refl

pub none_put : (all : List Layout) (n : ℕ) (sets : List (BTreeSet ℕ)) → rows_of sets ≡ replicate n [] → ArePut all [] n (rows_of sets)
none_put all n sets e = record {
  len = ap length e ∙ length_replicate n;
  put = λ x z h. ap (λ rows. has (row_at rows x) z) e ∙ ap (λ row. has row z) (row_is (replicate n []) x ∙ get_or-replicate n x [] [] h);
}
  where
    length_replicate : (n : ℕ) → length (replicate {A = List ℕ} n []) ≡ n
    length_replicate zero = refl
    length_replicate (suc n) = ap suc (length_replicate n)

pub layout_put : (all : List Layout) (i n label : ℕ) (d l : Layout) (old new : List (BTreeSet ℕ)) → i < length all → l ≡ slice_index_or all i d → label ≡ label_in all l.point → length new ≡ length old → ((y z : ℕ) → y < length old → has (row_at (rows_of new) y) z ≡ ((has l.free y && nat_eq z label) || has (row_at (rows_of old) y) z)) → ArePut all (take i all) n (rows_of old) → ArePut all (take (i + 1) all) n (rows_of new)
layout_put all i n label d l old new lt e f len m r =
    let next : suc i ≡ i + 1 = omega arith in
    subst (λ k. ArePut all (take k all) n (rows_of new)) next
    (subst (λ ls. ArePut all ls n (rows_of new)) (ap (λ (j : Layout). take i all ++ j ∷ []) e ∙ sym (take-suc all i d lt))
    (record {
      len = length_rows new ∙ len ∙ sym (length_rows old) ∙ r.len;
      put = λ x z h.
          m x z (omega (arith, h, r.len, length_rows old))
          ∙ ap (λ b. (has l.free x && nat_eq z label) || b) (r.put x z h)
          ∙ ap (λ k. (has l.free x && nat_eq z k) || list_any (λ (j : Layout). has j.free x && nat_eq z (label_in all j.point)) (take i all)) f
          ∙ sym (any_append (λ (j : Layout). has j.free x && nat_eq z (label_in all j.point)) (take i all) l);
    }))

-- ---- The rows are the users

has_over : {X : Type 0} (f : X → List ℕ) (xs : List X) (z : ℕ) → has (union_over f xs) z ≡ list_any (λ x. has (f x) z) xs
has_over f [] z = refl
has_over f (x ∷ xs) z = has-union (f x) (union_over f xs) z ∙ ap (λ b. has (f x) z || b) (has_over f xs z)

any_same : {X : Type 0} (f g : X → Bool) → ((x : X) → f x ≡ g x) → (xs : List X) → list_any f xs ≡ list_any g xs
any_same f g h [] = refl
any_same f g h (x ∷ xs) = ap (λ b. b || list_any f xs) (h x) ∙ ap (λ b. g x || b) (any_same f g h xs)

module _ (all : List Layout) (x : ℕ) where
  abbrev own : Layout → List ℕ
  own l = cond (has l.free x) (label_in all l.point ∷ []) []

  own_ascending : (l : Layout) → IsAscending 0 (own l)
  own_ascending l = by (has l.free x)
    where
      by : (b : Bool) → IsAscending 0 (cond b (label_in all l.point ∷ []) [])
      by true = one_ascending (label_in all l.point)
      by false = tt

  own_has : (z : ℕ) (l : Layout) → has (own l) z ≡ (has l.free x && nat_eq z (label_in all l.point))
  own_has z l = by (has l.free x) (nat_eq z (label_in all l.point)) refl
    where
      by : (b c : Bool) → nat_eq z (label_in all l.point) ≡ c → has (cond b (label_in all l.point ∷ []) []) z ≡ (b && nat_eq z (label_in all l.point))
      by true true e = ap (λ d. d || false) e ∙ sym e
      by true false e = ap (λ d. d || false) e ∙ sym e
      by false c e = refl

  users_are : (row : List ℕ) → IsAscending 0 row → ((z : ℕ) → has row z ≡ list_any (λ (l : Layout). has l.free x && nat_eq z (label_in all l.point)) all) → row ≡ users all x
  users_are row a h =
      one_list 0 row (users all x) a (over_ascending own own_ascending all)
      (λ z. h z ∙ sym (any_same (λ l. has (own l) z) (λ (l : Layout). has l.free x && nat_eq z (label_in all l.point)) (own_has z) all) ∙ sym (has_over own all z))

ascend_at : (rows : List (List ℕ)) (x : ℕ) → AllByRecursion (IsAscending 0) rows → IsAscending 0 (row_at rows x)
ascend_at [] x h = tt
ascend_at (r ∷ rows) zero h = h.0
ascend_at (r ∷ rows) (suc x) h = ascend_at rows x h.1

pub are_users : (all : List Layout) (n : ℕ) (rows : List (List ℕ)) → ArePut all all n rows → AllByRecursion (IsAscending 0) rows → AreUsers all n rows
are_users all n rows p a = record {
  len = p.len;
  at = λ x h. users_are all x (row_at rows x) (ascend_at rows x a) (λ z. p.put x z h);
}

-- one row more
pub all_more : (P : List ℕ → Type 0) (rows : List (List ℕ)) (row : List ℕ) → AllByRecursion P rows → P row → AllByRecursion P (rows ++ row ∷ [])
all_more P [] row h p = (p, tt)
all_more P (r ∷ rows) row h p = (h.0, all_more P rows row h.1 p)

pub on_ok : {E : Type 0} (r : Result (Unit {0}) E) (P Q : Type 0) → (P → Q) → OnOk r P → OnOk r Q
on_ok (Ok u) P Q f h = f h
on_ok (Err e) P Q f h = tt

pub emptied : (k : ℕ) (old new : List (BTreeSet ℕ)) (s : BTreeSet ℕ) → rows_of old ≡ replicate k [] → s.keys ≡ [] → new ≡ old ++ s ∷ [] → rows_of new ≡ replicate (k + 1) []
emptied k old new s e f g =
    ap rows_of g ∙ map-append (λ (t : BTreeSet ℕ). t.keys) old (s ∷ []) ∙ ap (λ rows. rows ++ s.keys ∷ []) e ∙ ap (λ row. replicate k [] ++ row ∷ []) f ∙ last k ∙ ap (λ n. replicate n []) (let next : suc k ≡ k + 1 = omega arith in next)
  where
    last : (k : ℕ) → replicate {A = List ℕ} k [] ++ [] ∷ [] ≡ replicate (suc k) []
    last zero = refl
    last (suc k) = ap (λ rows. [] ∷ rows) (last k)

pub listed_more : (sets : List (BTreeSet ℕ)) (i : ℕ) (d s : BTreeSet ℕ) (rows new : List (List ℕ)) (row : List ℕ) → i < length sets → s ≡ slice_index_or sets i d → rows ≡ take i (rows_of sets) → row ≡ s.keys → new ≡ rows ++ row ∷ [] → new ≡ take (i + 1) (rows_of sets)
listed_more sets i d s rows new row lt e f g h =
    let next : suc i ≡ i + 1 = omega arith in
    h ∙ ap (λ rs. rs ++ row ∷ []) f ∙ ap (λ r. take i (rows_of sets) ++ r ∷ []) (g ∙ ap (λ (t : BTreeSet ℕ). t.keys) e ∙ sym (get_or-map (λ (t : BTreeSet ℕ). t.keys) sets i d [] lt))
    ∙ sym (take-suc (rows_of sets) i [] (omega (arith, lt, length_rows sets)))
    ∙ ap (λ k. take k (rows_of sets)) next

pub all_listed : (sets : List (BTreeSet ℕ)) (i : ℕ) → length sets ≤ i → take i (rows_of sets) ≡ rows_of sets
all_listed sets i h = take_all i (rows_of sets) (omega (arith, h, length_rows sets))

-- a set's own test of a member
pub member : (q : ℕ) (xs : List ℕ) → list_any (is_at (nat_cmp q)) xs ≡ has xs q
member q xs = any_same (is_at (nat_cmp q)) (nat_eq q) (unsigned_tied q) xs
