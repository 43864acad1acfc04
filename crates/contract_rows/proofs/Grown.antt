-- Rows of bodies that grow.
use Rattle.std.proofs.Common.{◌≡◌, ◌≢◌, ℕ, zero, suc, ◌+◌, ◌<◌, ◌≤◌, List, [], ◌∷◌, ◌++◌, length, flat_map, replicate, Some, Bool, true, false, cond, slice_get, refl, sym, ap, ◌∙◌, subst, arith, ⊎_elim, nat_eq, eqb-true, length-set, length-append}
use Rattle.std.specs.Prelude.{slice_set}
use Rattle.std.specs.List.{AllByRecursion}
use Rattle.std.proofs.lemmas.Bool.{cases_lt}
use Rattle.std.proofs.lemmas.List.{length-replicate}
use Rattle.simulation.proofs.Lists.{some_eq, get_append, get_split, get_below, get_set_same, get_set_other}
use Rattle.cps_ir.specs.declared.body.Body.{Body}
use Rattle.cps_ir.specs.Code.{Code}
use Rattle.cps_ir.specs.Kept.{body_parts}
use Rattle.cps_ir.specs.Program.{code_of_body, code_at}
use Rattle.contract_laws.specs.Weigh.{names_weigh, of_name}
use Rattle.contract_laws.proofs.Relation.{eqb_other}
use Rattle.contract_round.proofs.Facts.{own}
use Rattle.contract_round.proofs.Counts.{distinct_weighs, weighs_distinct}
use Rattle.cps_free.proofs.Unfold.{body_same, all_with, code_unfold}
use Rattle.contract_rows.specs.Rows.{empty, numbers, IsOneTree}

-- ---- Counts of numbers

weigh_append : (x : ℕ) (xs ys : List ℕ) → names_weigh (of_name x) (xs ++ ys) ≡ names_weigh (of_name x) xs + names_weigh (of_name x) ys
weigh_append x [] ys = omega arith
weigh_append x (y ∷ xs) ys = let h = weigh_append x xs ys in omega arith

numbers_above : (x n k : ℕ) → x < n → names_weigh (of_name x) (numbers n k) ≡ 0
numbers_above x n zero h = refl
numbers_above x n (suc k) h = by (nat_eq x n) refl (numbers_above x (suc n) k (omega arith))
  where
    by : (b : Bool) → nat_eq x n ≡ b → names_weigh (of_name x) (numbers (suc n) k) ≡ 0 → own x n + names_weigh (of_name x) (numbers (suc n) k) ≡ 0
    by true e g = let q = eqb-true x n e in absurd (omega arith)
    by false e g = let o : own x n ≡ 0 = ap (λ b. cond b 1 0) e in omega arith

numbers_once : (x n k : ℕ) → names_weigh (of_name x) (numbers n k) ≤ 1
numbers_once x n zero = omega arith
numbers_once x n (suc k) = by (nat_eq x n) refl (numbers_once x (suc n) k)
  where
    by : (b : Bool) → nat_eq x n ≡ b → names_weigh (of_name x) (numbers (suc n) k) ≤ 1 → own x n + names_weigh (of_name x) (numbers (suc n) k) ≤ 1
    by true e g = let o : own x n ≡ 1 = ap (λ b. cond b 1 0) e in let q = eqb-true x n e in let z = numbers_above x (suc n) k (omega arith) in omega arith
    by false e g = let o : own x n ≡ 0 = ap (λ b. cond b 1 0) e in omega arith

numbers_length : (n k : ℕ) → length (numbers n k) ≡ k
numbers_length n zero = refl
numbers_length n (suc k) = let h = numbers_length (suc n) k in omega arith

numbers_all : (i n k m : ℕ) → i < n → n + k ≤ m → AllByRecursion (λ c. (i < c) × (c < m)) (numbers n k)
numbers_all i n zero m h g = tt
numbers_all i n (suc k) m h g = ((h, omega arith), numbers_all i (suc n) k m (omega arith) (omega arith))

below_none : (x m : ℕ) (i : ℕ) (xs : List ℕ) → m ≤ x → AllByRecursion (λ c. (i < c) × (c < m)) xs → names_weigh (of_name x) xs ≡ 0
below_none x m i [] h a = refl
below_none x m i (y ∷ xs) h a = let l = a.0 in let k = l.1 in by (nat_eq x y) refl (below_none x m i xs h a.1) k
  where
    by : (b : Bool) → nat_eq x y ≡ b → names_weigh (of_name x) xs ≡ 0 → y < m → own x y + names_weigh (of_name x) xs ≡ 0
    by true e g k = let q = eqb-true x y e in absurd (omega arith)
    by false e g k = let o : own x y ≡ 0 = ap (λ b. cond b 1 0) e in omega arith

-- ---- Parts of all bodies

parts_none : (x : ℕ) (bs : List Body) → ((i : ℕ) (b : Body) → slice_get bs i ≡ Some b → names_weigh (of_name x) (body_parts b) ≡ 0) → names_weigh (of_name x) (flat_map body_parts bs) ≡ 0
parts_none x [] h = refl
parts_none x (b ∷ bs) h =
    let p = weigh_append x (body_parts b) (flat_map body_parts bs) in
    let q = h 0 b refl in
    let r = parts_none x bs (λ i c e. h (suc i) c e) in
    omega arith

-- of a count of lists that adds up
module _ (m : List ℕ → ℕ) (none : m [] ≡ 0) (sum : (xs ys : List ℕ) → m (xs ++ ys) ≡ m xs + m ys) where
  parts_set : (bs : List Body) (i : ℕ) (old b : Body) → slice_get bs i ≡ Some old → m (flat_map body_parts (slice_set bs i b)) + m (body_parts old) ≡ m (flat_map body_parts bs) + m (body_parts b)
  parts_set [] i old b e = absurd (cc)
  parts_set (c ∷ bs) zero old b e =
      let p = sum (body_parts b) (flat_map body_parts bs) in
      let q = sum (body_parts c) (flat_map body_parts bs) in
      let r : m (body_parts c) ≡ m (body_parts old) = some_eq (λ d. m (body_parts d) ≡ m (body_parts old)) old c (sym e) refl in
      omega arith
  parts_set (c ∷ bs) (suc i) old b e =
      let p = sum (body_parts c) (flat_map body_parts (slice_set bs i b)) in
      let q = sum (body_parts c) (flat_map body_parts bs) in
      let r = parts_set bs i old b e in
      omega arith

  parts_empty : (k : ℕ) → m (flat_map body_parts (replicate k empty)) ≡ 0
  parts_empty zero = none
  parts_empty (suc k) = parts_empty k

  parts_more : (bs : List Body) (k : ℕ) → m (flat_map body_parts (bs ++ replicate k empty)) ≡ m (flat_map body_parts bs)
  parts_more [] k = parts_empty k ∙ sym none
  parts_more (c ∷ bs) k =
      let p = sum (body_parts c) (flat_map body_parts (bs ++ replicate k empty)) in
      let q = sum (body_parts c) (flat_map body_parts bs) in
      let r = parts_more bs k in
      omega arith

-- ---- One more body

wider : (i m n : ℕ) (xs : List ℕ) → m ≤ n → AllByRecursion (λ c. (i < c) × (c < m)) xs → AllByRecursion (λ c. (i < c) × (c < n)) xs
wider i m n [] h a = tt
wider i m n (x ∷ xs) h a = let p = a.0 in let q = p.1 in ((p.0, omega arith), wider i m n xs h a.1)

all_both : {A : Type 0} (P : A → Type 0) (xs ys : List A) → AllByRecursion P xs → AllByRecursion P ys → AllByRecursion P (xs ++ ys)
all_both P [] ys a b = b
all_both P (x ∷ xs) ys a b = (a.0, all_both P xs ys a.1 b)

get_empty : (k i : ℕ) (b : Body) → slice_get (replicate k empty) i ≡ Some b → empty ≡ b
get_empty zero i b e = absurd (cc)
get_empty (suc k) zero b e = some_eq (λ c. empty ≡ c) empty b e refl
get_empty (suc k) (suc i) b e = get_empty k i b e

pub get_within : (bs : List Body) (i : ℕ) (b : Body) → slice_get bs i ≡ Some b → i < length bs
get_within [] i b e = absurd (cc)
get_within (c ∷ bs) zero b e = omega arith
get_within (c ∷ bs) (suc i) b e = let h = get_within bs i b e in omega arith

pub begun : IsOneTree (empty ∷ [])
begun = record { numbered = alone; apart = tt; whole = refl }
  where
    alone : (i : ℕ) (b : Body) → slice_get (empty ∷ []) i ≡ Some b → AllByRecursion (λ c. (i < c) × (c < 1)) (body_parts b)
    alone zero b e = some_eq (λ c. AllByRecursion (λ d. (0 < d) × (d < 1)) (body_parts c)) empty b e tt
    alone (suc i) b e = absurd (cc)

module _ (bodies : List Body) (i k : ℕ) (old b : Body) (t : IsOneTree bodies) (here : slice_get bodies i ≡ Some old) (parts : body_parts b ≡ body_parts old ++ numbers (length bodies) k) where
  abbrev longer : List Body
  longer = bodies ++ replicate k empty

  abbrev new : List Body
  new = slice_set longer i b

  new_length : length new ≡ length bodies + k
  new_length = length-set longer i b ∙ length-append bodies (replicate k empty) ∙ ap (λ n. length bodies + n) (length-replicate k empty)

  old_here : slice_get longer i ≡ Some old
  old_here = get_append bodies (replicate k empty) i old here

  new_numbered : (j : ℕ) (c : Body) → slice_get new j ≡ Some c → AllByRecursion (λ d. (j < d) × (d < length new)) (body_parts c)
  new_numbered j c e = by (nat_eq j i) refl
    where
      filled : j ≡ i → AllByRecursion (λ d. (j < d) × (d < length new)) (body_parts c)
      filled q =
          let l = get_within bodies i old here in
          let is : b ≡ c = some_eq (λ d. b ≡ d) b c (sym (get_set_same longer i b old old_here) ∙ ap (slice_get new) (sym q) ∙ e) refl in
          subst (λ d. AllByRecursion (λ n. (j < n) × (n < length new)) (body_parts d)) is (subst (λ ps. AllByRecursion (λ n. (j < n) × (n < length new)) ps) (sym parts) (all_both (λ n. (j < n) × (n < length new)) (body_parts old) (numbers (length bodies) k) (wider j (length bodies) (length new) (body_parts old) (let m = new_length in omega arith) (t.numbered j old (ap (slice_get bodies) q ∙ here))) (numbers_all j (length bodies) k (length new) (omega arith) (let n = new_length in omega arith))))

      other : j ≢ i → AllByRecursion (λ d. (j < d) × (d < length new)) (body_parts c)
      other n =
          ⊎_elim (λ (g : slice_get bodies j ≡ Some c). wider j (length bodies) (length new) (body_parts c) (let m = new_length in omega arith) (t.numbered j c g))
          (λ (g : (d : ℕ) × (j ≡ length bodies + d) × (slice_get (replicate k empty) d ≡ Some c)). subst (λ d. AllByRecursion (λ n. (j < n) × (n < length new)) (body_parts d)) (get_empty k g.0 c g.2) tt)
          (get_split bodies (replicate k empty) j c (sym (get_set_other longer i b j n) ∙ e))

      by : (o : Bool) → nat_eq j i ≡ o → AllByRecursion (λ d. (j < d) × (d < length new)) (body_parts c)
      by true q = filled (eqb-true j i q)
      by false q = other (eqb_other j i q)

  new_weighs : (x : ℕ) → names_weigh (of_name x) (flat_map body_parts new) ≤ 1
  new_weighs x =
      let a = parts_set (names_weigh (of_name x)) refl (weigh_append x) longer i old b old_here in
      let c = parts_more (names_weigh (of_name x)) refl (weigh_append x) bodies k in
      let d = distinct_weighs (flat_map body_parts bodies) t.apart x in
      let p = ap (names_weigh (of_name x)) parts ∙ weigh_append x (body_parts old) (numbers (length bodies) k) in
      let q = numbers_once x (length bodies) k in
      ⊎_elim (λ (l : x < length bodies). let z = numbers_above x (length bodies) k l in omega arith)
      (λ (l : length bodies ≤ x). let z = parts_none x bodies (λ j f e. below_none x (length bodies) j (body_parts f) l (t.numbered j f e)) in omega arith)
      (cases_lt x (length bodies))

  pub grown : IsOneTree new
  grown = record {
    numbered = new_numbered;
    apart = weighs_distinct (flat_map body_parts new) new_weighs;
    whole =
        let a = parts_set length refl (λ xs ys. length-append xs ys) longer i old b old_here in
        let c = parts_more length refl (λ xs ys. length-append xs ys) bodies k in
        let p = ap length parts ∙ length-append (body_parts old) (numbers (length bodies) k) in
        let q = numbers_length (length bodies) k in
        let n = new_length in
        let w = t.whole in
        omega arith;
  }

-- ---- What is promised

module _ (bodies : List Body) (promised : ℕ → Code) (t : IsOneTree bodies) (each : (i : ℕ) (b : Body) → slice_get bodies i ≡ Some b → code_of_body promised (Some b) ≡ promised i) where
  downwards : (n i : ℕ) → length bodies ≤ n + i → i < length bodies → code_at bodies i ≡ promised i
  downwards zero i h l = absurd (omega arith)
  downwards (suc n) i h l =
      let g = get_below bodies i l in
      code_unfold bodies t.numbered i g.0 g.1
      ∙ body_same (code_at bodies) promised g.0 (all_with (λ c. (i < c) × (c < length bodies)) (λ c. code_at bodies c ≡ promised c) (λ c k. let p = k.0 in downwards n c (omega arith) k.1) (body_parts g.0) (t.numbered i g.0 g.1))
      ∙ each i g.0 g.1

  pub held : (i : ℕ) → i < length bodies → code_at bodies i ≡ promised i
  held i l = downwards (length bodies) i (omega arith) l
