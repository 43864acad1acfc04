-- What a state reaches is the least set that has the roots and is closed under fields.
use Rattle.std.proofs.Common.{◌≡◌, ℕ, zero, suc, ◌+◌, ◌<◌, ◌≤◌, Bool, true, false, List, [], ◌∷◌, length, Option, Some, None, refl, sym, ap, ◌∙◌, subst, arith, ◌⊎◌, inl, inr, ⊎_elim}
use Rattle.std.specs.Prelude.{slice_get, nat_lt, nat_eq, if◌then◌else◌, ◌||◌}
use Rattle.std.specs.List.{AllByRecursion}
use Rattle.std.proofs.lemmas.Bool.{eqb-true, eq-eqb, ltb-true, ltb-false, eqb-false}
use Rattle.sml_tree.specs.Sets.{has, merge, union, union_over}
use Rattle.sml_tree.proofs.Members.{IsWithin, has-union, within_left, within_right, either, or_left, or_right}
use Rattle.simulation.specs.Blocks.{Block, IsAmong, StandsAt, Reach, root, field}
use Rattle.simulation.specs.Words.{IsDistinct, HasWords}
use Rattle.sml_def.specs.Words.{words, some_fields, as_set, fields_at, rounds, reached, IsLeastReach}

-- ---- Ascending sets below n

abbrev pub IsAscending : ℕ → ℕ → List ℕ → Type 0
IsAscending lo n [] = Unit {0}
IsAscending lo n (x ∷ xs) = (lo ≤ x) × (x < n) × IsAscending (suc x) n xs

few : (lo n : ℕ) (xs : List ℕ) → lo ≤ n → IsAscending lo n xs → lo + length xs ≤ n
few lo n [] le h = omega arith
few lo n (x ∷ xs) le h = omega (arith, h.0, few (suc x) n xs h.1 h.2)

pub ascending_down : (lo hi n : ℕ) (xs : List ℕ) → lo ≤ hi → IsAscending hi n xs → IsAscending lo n xs
ascending_down lo hi n [] le h = tt
ascending_down lo hi n (x ∷ xs) le h = (omega (arith, h.0), h.1, h.2)

merge_ascending : (lo n x : ℕ) (rest : List ℕ → List ℕ) → lo ≤ x → x < n → ((zs : List ℕ) → IsAscending (suc x) n zs → IsAscending (suc x) n (rest zs)) → (ys : List ℕ) → IsAscending lo n ys → IsAscending lo n (merge x rest ys)
merge_ascending lo n x rest le lt r [] h = (le, lt, r [] tt)
merge_ascending lo n x rest le lt r (y ∷ ys) h = go (nat_lt x y) (nat_eq x y) refl refl (λ g. merge_ascending (suc y) n x rest g lt r ys h.2)
  where
    go : (a b : Bool) → nat_lt x y ≡ a → nat_eq x y ≡ b → (suc y ≤ x → IsAscending (suc y) n (merge x rest ys)) → IsAscending lo n (if a then x ∷ rest (y ∷ ys) else if b then x ∷ rest ys else y ∷ merge x rest ys)
    go true b e f later = (le, lt, r (y ∷ ys) (ltb-true x y e, h.1, h.2))
    go false true e f later =
        let same : x ≡ y = eqb-true x y f in
        (le, lt, r ys (subst (λ z. IsAscending (suc z) n ys) (sym same) h.2))
    go false false e f later =
        let past : suc y ≤ x = (let a = ltb-false x y e in let b : x ≡ y → ⊥ = eqb-false x y f in omega arith) in
        (h.0, h.1, later past)

union_ascending : (lo n : ℕ) (xs ys : List ℕ) → IsAscending lo n xs → IsAscending lo n ys → IsAscending lo n (union xs ys)
union_ascending lo n [] ys h g = g
union_ascending lo n (x ∷ xs) ys h g =
    merge_ascending lo n x (union xs) h.0 h.1 (λ zs k. union_ascending (suc x) n xs zs h.2 k) ys g

set_ascending : (n : ℕ) (xs : List ℕ) → AllByRecursion (λ a. a < n) xs → IsAscending 0 n (as_set xs)
set_ascending n [] h = tt
set_ascending n (x ∷ xs) h =
    union_ascending 0 n (x ∷ []) (as_set xs) (omega arith, h.0, tt) (set_ascending n xs h.1)

over_ascending : (n : ℕ) (f : ℕ → List ℕ) → ((a : ℕ) → IsAscending 0 n (f a)) → (xs : List ℕ) → IsAscending 0 n (union_over f xs)
over_ascending n f g [] = tt
over_ascending n f g (x ∷ xs) = union_ascending 0 n (f x) (union_over f xs) (g x) (over_ascending n f g xs)

-- ---- A union is the first set, or longer

merge_longer : (x : ℕ) (xs : List ℕ) (rest : List ℕ → List ℕ) → ((zs : List ℕ) → length xs ≤ length (rest zs)) → (ys : List ℕ) → suc (length xs) ≤ length (merge x rest ys)
merge_longer x xs rest l [] = omega (arith, l [])
merge_longer x xs rest l (y ∷ ys) = go (nat_lt x y) (nat_eq x y) (merge_longer x xs rest l ys)
  where
    go : (a b : Bool) → suc (length xs) ≤ length (merge x rest ys) → suc (length xs) ≤ length (if a then x ∷ rest (y ∷ ys) else if b then x ∷ rest ys else y ∷ merge x rest ys)
    go true b h = omega (arith, l (y ∷ ys))
    go false true h = omega (arith, l ys)
    go false false h = omega (arith, h)

union_longer : (xs ys : List ℕ) → length xs ≤ length (union xs ys)
union_longer [] ys = omega arith
union_longer (x ∷ xs) ys = merge_longer x xs (union xs) (union_longer xs) ys

abbrev SameOrLonger : List ℕ → List ℕ → Type 0
SameOrLonger xs zs = (zs ≡ xs) ⊎ (length xs < length zs)

one_more : (x : ℕ) (xs zs : List ℕ) → SameOrLonger xs zs → SameOrLonger (x ∷ xs) (x ∷ zs)
one_more x xs zs h = ⊎_elim (λ (e : zs ≡ xs). inl (ap (λ ws. x ∷ ws) e)) (λ (l : length xs < length zs). inr (omega (arith, l))) h

merge_same : (x : ℕ) (xs : List ℕ) (rest : List ℕ → List ℕ) → ((zs : List ℕ) → length xs ≤ length (rest zs)) → ((zs : List ℕ) → SameOrLonger xs (rest zs)) → (ys : List ℕ) → SameOrLonger (x ∷ xs) (merge x rest ys)
merge_same x xs rest l g [] = one_more x xs (rest []) (g [])
merge_same x xs rest l g (y ∷ ys) = go (nat_lt x y) (nat_eq x y) (merge_longer x xs rest l ys)
  where
    go : (a b : Bool) → suc (length xs) ≤ length (merge x rest ys) → SameOrLonger (x ∷ xs) (if a then x ∷ rest (y ∷ ys) else if b then x ∷ rest ys else y ∷ merge x rest ys)
    go true b h = one_more x xs (rest (y ∷ ys)) (g (y ∷ ys))
    go false true h = one_more x xs (rest ys) (g ys)
    go false false h = inr (omega (arith, h))

same_or_longer : (xs ys : List ℕ) → SameOrLonger xs (union xs ys)
same_or_longer [] [] = inl refl
same_or_longer [] (y ∷ ys) = inr (omega arith)
same_or_longer (x ∷ xs) ys = merge_same x xs (union xs) (union_longer xs) (same_or_longer xs) ys

-- ---- Members

among_has : (xs : List ℕ) (z : ℕ) → IsAmong z xs → has (as_set xs) z ≡ true
among_has [] z h = absurd h
among_has (x ∷ xs) z h =
    has-union (x ∷ []) (as_set xs) z
    ∙ ⊎_elim
    (λ (e : z ≡ x). or_left (nat_eq z x || false) (has (as_set xs) z) (or_left (nat_eq z x) false (eq-eqb z x e)))
    (λ (g : IsAmong z xs). or_right (nat_eq z x || false) (has (as_set xs) z) (among_has xs z g))
    h

has_among : (xs : List ℕ) (z : ℕ) → has (as_set xs) z ≡ true → IsAmong z xs
has_among [] z h = cc
has_among (x ∷ xs) z h =
    either (nat_eq z x || false) (has (as_set xs) z) (IsAmong z (x ∷ xs)) (sym (has-union (x ∷ []) (as_set xs) z) ∙ h)
    (λ a. either (nat_eq z x) false (IsAmong z (x ∷ xs)) a (λ e. inl (eqb-true z x e)) (λ e. absurd cc))
    (λ a. inr (has_among xs z a))

one_of : (f : ℕ → List ℕ) (xs : List ℕ) (z : ℕ) → has (union_over f xs) z ≡ true → (b : ℕ) × (has xs b ≡ true) × (has (f b) z ≡ true)
one_of f [] z h = cc
one_of f (x ∷ xs) z h =
    either (has (f x) z) (has (union_over f xs) z) ((b : ℕ) × (has (x ∷ xs) b ≡ true) × (has (f b) z ≡ true)) (sym (has-union (f x) (union_over f xs) z) ∙ h)
    (λ a. (x, or_left (nat_eq x x) (has xs x) (eq-eqb x x refl), a))
    (λ a. let r = one_of f xs z a in (r.0, or_right (nat_eq r.0 x) (has xs r.0) r.1, r.2))

one_in : (f : ℕ → List ℕ) (xs : List ℕ) (b z : ℕ) → has xs b ≡ true → has (f b) z ≡ true → has (union_over f xs) z ≡ true
one_in f [] b z hb hz = cc
one_in f (x ∷ xs) b z hb hz =
    has-union (f x) (union_over f xs) z
    ∙ either (nat_eq b x) (has xs b) ((has (f x) z || has (union_over f xs) z) ≡ true) hb
    (λ a. or_left (has (f x) z) (has (union_over f xs) z) (ap (λ y. has (f y) z) (sym (eqb-true b x a)) ∙ hz))
    (λ a. or_right (has (f x) z) (has (union_over f xs) z) (one_in f xs b z a hz))

pub in_among : (xs : List ℕ) (z : ℕ) → has xs z ≡ true → IsAmong z xs
in_among [] z h = cc
in_among (x ∷ xs) z h =
    either (nat_eq z x) (has xs z) (IsAmong z (x ∷ xs)) h (λ e. inl (eqb-true z x e)) (λ g. inr (in_among xs z g))

pub among_in : (xs : List ℕ) (z : ℕ) → IsAmong z xs → has xs z ≡ true
among_in [] z h = absurd h
among_in (x ∷ xs) z h =
    ⊎_elim (λ (e : z ≡ x). or_left (nat_eq z x) (has xs z) (eq-eqb z x e)) (λ (g : IsAmong z xs). or_right (nat_eq z x) (has xs z) (among_in xs z g)) h

-- a member of an ascending list
pub among_between : (lo n : ℕ) (xs : List ℕ) (z : ℕ) → IsAscending lo n xs → IsAmong z xs → (lo ≤ z) × (z < n)
among_between lo n [] z h g = absurd g
among_between lo n (x ∷ xs) z h (inl e) = (omega (arith, h.0), omega (arith, h.1))
among_between lo n (x ∷ xs) z h (inr g) =
    let r = among_between (suc x) n xs z h.2 g in
    (omega (arith, h.0, r.0), r.1)

pub distinct_of : (lo n : ℕ) (xs : List ℕ) → IsAscending lo n xs → IsDistinct xs
distinct_of lo n [] h = tt
distinct_of lo n (x ∷ xs) h =
    ((λ g. let r = among_between (suc x) n xs x h.2 g in absurd (omega (arith, r.0))), distinct_of (suc x) n xs h.2)

pub get_below : {A : Type 0} (xs : List A) (a : ℕ) → a < length xs → (x : A) × (slice_get xs a ≡ Some x)
get_below [] a h = absurd (omega arith)
get_below (x ∷ xs) zero h = (x, refl)
get_below (x ∷ xs) (suc a) h = get_below xs a (omega arith)

-- ---- The search

-- all that is named stands in the memory
pub record IsWhole (memory : List Block) (roots : List ℕ) : Type 0 where
  pub roots_stand : AllByRecursion (λ a. a < length memory) roots
  pub fields_stand : (a : ℕ) (b : Block) → StandsAt memory a b → AllByRecursion (λ a. a < length memory) b.fields

module _ (memory : List Block) (roots : List ℕ) (whole : IsWhole memory roots) where
  fields_ascending : (a : ℕ) → IsAscending 0 (length memory) (fields_at memory a)
  fields_ascending a = go (slice_get memory a) refl
    where
      go : (o : Option Block) → slice_get memory a ≡ o → IsAscending 0 (length memory) (as_set (some_fields o))
      go None e = tt
      go (Some b) e = set_ascending (length memory) b.fields (whole.fields_stand a b e)

  abbrev next : List ℕ → List ℕ
  next found = union found (union_over (fields_at memory) found)

  next_ascending : (found : List ℕ) → IsAscending 0 (length memory) found → IsAscending 0 (length memory) (next found)
  next_ascending found h =
      union_ascending 0 (length memory) found (union_over (fields_at memory) found) h (over_ascending (length memory) (fields_at memory) fields_ascending found)

  stays : (n : ℕ) (found : List ℕ) → next found ≡ found → rounds n memory found ≡ found
  stays zero found e = refl
  stays (suc n) found e = ap (rounds n memory) e ∙ stays n found e

  -- after n rounds nothing new comes, or n more are found
  done_or_longer : (n : ℕ) (found : List ℕ) → (next (rounds n memory found) ≡ rounds n memory found) ⊎ (n + length found ≤ length (rounds n memory found))
  done_or_longer zero found = inr (omega arith)
  done_or_longer (suc n) found =
      ⊎_elim
      (λ (e : next found ≡ found). inl (subst (λ xs. next (rounds n memory xs) ≡ rounds n memory xs) (sym e) (ap next (stays n found e) ∙ e ∙ sym (stays n found e))))
      (λ (longer : length found < length (next found)). ⊎_elim (λ (e : next (rounds n memory (next found)) ≡ rounds n memory (next found)). inl e) (λ (l : n + length (next found) ≤ length (rounds n memory (next found))). inr (omega (arith, l, longer))) (done_or_longer n (next found)))
      (same_or_longer found (union_over (fields_at memory) found))

  rounds_ascending : (n : ℕ) (found : List ℕ) → IsAscending 0 (length memory) found → IsAscending 0 (length memory) (rounds n memory found)
  rounds_ascending zero found h = h
  rounds_ascending (suc n) found h = rounds_ascending n (next found) (next_ascending found h)

  -- as many rounds as there are blocks are enough
  all_found : (found : List ℕ) → IsAscending 0 (length memory) found → next (rounds (length memory) memory found) ≡ rounds (length memory) memory found
  all_found [] h = ap next (stays (length memory) [] refl) ∙ sym (stays (length memory) [] refl)
  all_found (x ∷ found) h =
      ⊎_elim
      (λ (e : next (rounds (length memory) memory (x ∷ found)) ≡ rounds (length memory) memory (x ∷ found)). e)
      (λ (longer : length memory + length (x ∷ found) ≤ length (rounds (length memory) memory (x ∷ found))). absurd (omega (arith, longer, few 0 (length memory) (rounds (length memory) memory (x ∷ found)) (omega arith) (rounds_ascending (length memory) (x ∷ found) h))))
      (done_or_longer (length memory) (x ∷ found))

  stable : next (reached memory roots) ≡ reached memory roots
  stable = all_found (as_set roots) (set_ascending (length memory) roots whole.roots_stand)

  rounds_keep : (n : ℕ) (found : List ℕ) → IsWithin found (rounds n memory found)
  rounds_keep zero found z h = h
  rounds_keep (suc n) found z h = rounds_keep n (next found) z (within_left found (union_over (fields_at memory) found) z h)

  field_of : (b z : ℕ) → Reach memory roots b → has (fields_at memory b) z ≡ true → Reach memory roots z
  field_of b z r h = go (slice_get memory b) refl h
    where
      go : (o : Option Block) → slice_get memory b ≡ o → has (as_set (some_fields o)) z ≡ true → Reach memory roots z
      go None e g = absurd cc
      go (Some x) e g = field b z x r e (has_among x.fields z g)

  found_rounds : (n : ℕ) (found : List ℕ) → ((z : ℕ) → has found z ≡ true → Reach memory roots z) → (a : ℕ) → has (rounds n memory found) a ≡ true → Reach memory roots a
  found_rounds zero found h a e = h a e
  found_rounds (suc n) found h a e =
      found_rounds n (next found) (λ z g. either (has found z) (has (union_over (fields_at memory) found) z) (Reach memory roots z) (sym (has-union found (union_over (fields_at memory) found) z) ∙ g) (h z) (λ r. let o = one_of (fields_at memory) found z r in field_of o.0 z (h o.0 o.1) o.2)) a e

  all_reached : (a : ℕ) → Reach memory roots a → has (reached memory roots) a ≡ true
  all_reached a (root b h) = rounds_keep (length memory) (as_set roots) a (among_has roots a h)
  all_reached a (field b c x r s h) =
      ap (λ xs. has xs a) (sym stable)
      ∙ within_right (reached memory roots) (union_over (fields_at memory) (reached memory roots)) a (one_in (fields_at memory) (reached memory roots) b a (all_reached b r) (ap (λ o. has (as_set (some_fields o)) a) s ∙ among_has x.fields a h))

  pub reached_ascending : IsAscending 0 (length memory) (reached memory roots)
  reached_ascending = rounds_ascending (length memory) (as_set roots) (set_ascending (length memory) roots whole.roots_stand)

  pub has_words : HasWords memory roots (words memory roots)
  has_words = record {
    addresses = reached memory roots;
    distinct = distinct_of 0 (length memory) (reached memory roots) reached_ascending;
    reached = λ a h.
        (found_rounds (length memory) (as_set roots) (λ z h. root z (has_among roots z h)) a (among_in (reached memory roots) a h), get_below memory a (among_between 0 (length memory) (reached memory roots) a reached_ascending h).1);
    all = λ a x r s. in_among (reached memory roots) a (all_reached a r);
    sum = refl;
  }

  pub least : IsLeastReach memory roots
  least = record { found = found_rounds (length memory) (as_set roots) (λ z h. root z (has_among roots z h)); all = all_reached }
