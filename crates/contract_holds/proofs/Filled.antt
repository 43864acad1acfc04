-- Bodies of the answer that are filled.
use Rattle.std.proofs.Common.{◌≡◌, ◌≢◌, ℕ, zero, suc, ◌+◌, ◌≤◌, ◌<◌, List, [], ◌∷◌, ◌++◌, length, flat_map, replicate, Some, Bool, true, false, cond, slice_get, nat_lt, nat_eq, inl, inr, refl, sym, ap, ◌∙◌, subst, arith, ⊎_elim, length-set, length-append, append_assoc, append-nil, eqb-true}
use Rattle.std.specs.Prelude.{get_or, slice_set}
use Rattle.std.specs.List.{AllByRecursion}
use Rattle.std.proofs.lemmas.Bool.{cases_lt}
use Rattle.std.proofs.lemmas.List.{length-replicate}
use Rattle.simulation.specs.Blocks.{IsAmong}
use Rattle.simulation.proofs.Lists.{some_eq, get_append, get_split, get_set_same, get_set_other, among_append}
use Rattle.sml_tree.specs.IsBare.{IsDistinct}
use Rattle.cps_ir.specs.declared.body.Bind.{Bind}
use Rattle.cps_ir.specs.declared.body.Body.{Body}
use Rattle.cps_ir.specs.declared.body.End.{End}
use Rattle.cps_ir.specs.declared.body.End.TheVariants as end
use Rattle.cps_ir.specs.Code.{Code}
use Rattle.cps_ir.specs.Kept.{bind_parts, end_parts, body_parts}
use Rattle.cps_ir.specs.Program.{code_of_binds}
use Rattle.contract_laws.specs.Weigh.{names_weigh, of_name}
use Rattle.contract_round.proofs.Facts.{own, own_same, among_weighs}
use Rattle.contract_round.proofs.Counts.{distinct_weighs, weighs_distinct}
use Rattle.contract_rows.specs.Rows.{empty, numbers, IsOneTree}
use Rattle.contract_rows.proofs.Grown.{grown}
use Rattle.contract_group.specs.Bodies.{and_bind, and_end, with_bind, with_end}
use Rattle.contract_holds.specs.Fits.{binds_of, AreOpen}

-- ---- Lists

pub get_here : {A : Type 0} (xs : List A) (i : ℕ) (d : A) → i < length xs → slice_get xs i ≡ Some (get_or xs i d)
get_here [] i d h = absurd (omega arith)
get_here (x ∷ xs) zero d h = refl
get_here (x ∷ xs) (suc i) d h = get_here xs i d (omega arith)

pub or_here : {A : Type 0} (xs : List A) (i : ℕ) (d a : A) → slice_get xs i ≡ Some a → get_or xs i d ≡ a
or_here [] i d a e = absurd (cc)
or_here (x ∷ xs) zero d a e = some_eq (λ b. x ≡ b) x a e refl
or_here (x ∷ xs) (suc i) d a e = or_here xs i d a e

flat_append : {A B : Type 0} (f : A → List B) (xs ys : List A) → flat_map f (xs ++ ys) ≡ flat_map f xs ++ flat_map f ys
flat_append f [] ys = refl
flat_append f (x ∷ xs) ys = ap (λ zs. f x ++ zs) (flat_append f xs ys) ∙ sym (append_assoc (f x) (flat_map f xs) (flat_map f ys))

pub all_both : {A : Type 0} (P : A → Type 0) (xs ys : List A) → AllByRecursion P xs → AllByRecursion P ys → AllByRecursion P (xs ++ ys)
all_both P [] ys a b = b
all_both P (x ∷ xs) ys a b = (a.0, all_both P xs ys a.1 b)

pub all_at : {A : Type 0} (P : A → Type 0) (xs : List A) (x : A) → AllByRecursion P xs → IsAmong x xs → P x
all_at P [] x a i = absurd i
all_at P (y ∷ ys) x a (inl e) = subst P (sym e) a.0
all_at P (y ∷ ys) x a (inr i) = all_at P ys x a.1 i

pub all_from : {A : Type 0} (P : A → Type 0) (xs : List A) → ((x : A) → IsAmong x xs → P x) → AllByRecursion P xs
all_from P [] f = tt
all_from P (x ∷ xs) f = (f x (inl refl), all_from P xs (λ y i. f y (inr i)))

pub weigh_append : (x : ℕ) (xs ys : List ℕ) → names_weigh (of_name x) (xs ++ ys) ≡ names_weigh (of_name x) xs + names_weigh (of_name x) ys
weigh_append x [] ys = omega arith
weigh_append x (y ∷ xs) ys = let h = weigh_append x xs ys in omega arith

-- ---- Code of bindings

pub binds_append : (P : ℕ → Code) (xs ys : List Bind) (c : Code) → code_of_binds P (xs ++ ys) c ≡ code_of_binds P xs (code_of_binds P ys c)
binds_append P [] ys c = refl
binds_append P (x ∷ xs) ys c = ap (λ d. code_of_binds P (x ∷ []) d) (binds_append P xs ys c)

-- ---- One body more, or filled

numbers_low : (x n k : ℕ) → x < n → names_weigh (of_name x) (numbers n k) ≡ 0
numbers_low x n zero h = refl
numbers_low x n (suc k) h = by (nat_eq x n) refl (numbers_low x (suc n) k (omega arith))
  where
    by : (b : Bool) → nat_eq x n ≡ b → names_weigh (of_name x) (numbers (suc n) k) ≡ 0 → own x n + names_weigh (of_name x) (numbers (suc n) k) ≡ 0
    by true e g = let q = eqb-true x n e in absurd (omega arith)
    by false e g = let o : own x n ≡ 0 = ap (λ b. cond b 1 0) e in omega arith

numbers_one : (x n k : ℕ) → names_weigh (of_name x) (numbers n k) ≤ 1
numbers_one x n zero = omega arith
numbers_one x n (suc k) = by (nat_eq x n) refl (numbers_one x (suc n) k)
  where
    by : (b : Bool) → nat_eq x n ≡ b → names_weigh (of_name x) (numbers (suc n) k) ≤ 1 → own x n + names_weigh (of_name x) (numbers (suc n) k) ≤ 1
    by true e g = let o : own x n ≡ 1 = ap (λ b. cond b 1 0) e in let q = eqb-true x n e in let z = numbers_low x (suc n) k (omega arith) in omega arith
    by false e g = let o : own x n ≡ 0 = ap (λ b. cond b 1 0) e in omega arith

pub numbers_among : (x n k : ℕ) → IsAmong x (numbers n k) → (n ≤ x) × (x < n + k)
numbers_among x n zero i = absurd i
numbers_among x n (suc k) (inl e) = (omega arith, omega arith)
numbers_among x n (suc k) (inr i) = let h = numbers_among x (suc n) k i in let h0 = h.0 in let h1 = h.1 in (omega arith, omega arith)

below_none : (x m : ℕ) (xs : List ℕ) → m ≤ x → AllByRecursion (λ i. i < m) xs → names_weigh (of_name x) xs ≡ 0
below_none x m [] h a = refl
below_none x m (y ∷ xs) h a = by (nat_eq x y) refl (below_none x m xs h a.1) a.0
  where
    by : (b : Bool) → nat_eq x y ≡ b → names_weigh (of_name x) xs ≡ 0 → y < m → own x y + names_weigh (of_name x) xs ≡ 0
    by true e g k = let q = eqb-true x y e in absurd (omega arith)
    by false e g k = let o : own x y ≡ 0 = ap (λ b. cond b 1 0) e in omega arith

get_empties : (k i : ℕ) (b : Body) → slice_get (replicate k empty) i ≡ Some b → empty ≡ b
get_empties zero i b e = absurd (cc)
get_empties (suc k) zero b e = some_eq (λ c. empty ≡ c) empty b e refl
get_empties (suc k) (suc i) b e = get_empties k i b e

module _ (slot : ℕ) (slots : List ℕ) (bodies : List Body) (free : AreOpen (slot ∷ slots) bodies) where
  pub slot_below : slot < length bodies
  slot_below = free.below.0

  abbrev old : Body
  old = get_or bodies slot empty

  pub slot_here : slice_get bodies slot ≡ Some old
  slot_here = get_here bodies slot empty slot_below

  pub old_end : old.end ≡ end.Halt
  old_end = free.ends slot old (inl refl) slot_here

  pub slot_apart : (i : ℕ) → IsAmong i slots → i ≢ slot
  slot_apart i a e = let d = distinct_weighs (slot ∷ slots) free.distinct slot in let o = own_same slot slot refl in let k = among_weighs slot slots (subst (λ j. IsAmong j slots) e a) in absurd (omega arith)

  pub with_bind_is : (b : Bind) → with_bind slot b bodies ≡ slice_set bodies slot (and_bind b old)
  with_bind_is b = let l = slot_below in let e : nat_lt slot (length bodies) ≡ true = grind arith in ap (λ t. cond t (slice_set bodies slot (and_bind b old)) bodies) e

  pub with_end_is : (e : End) → with_end slot e bodies ≡ slice_set bodies slot (and_end e old)
  with_end_is d = let l = slot_below in let e : nat_lt slot (length bodies) ≡ true = grind arith in ap (λ t. cond t (slice_set bodies slot (and_end d old)) bodies) e

  -- with so many new bodies, which stand in the one that is filled
  module _ (k : ℕ) (b : Body) (parts : body_parts b ≡ body_parts old ++ numbers (length bodies) k) where
    abbrev longer : List Body
    longer = bodies ++ replicate k empty

    abbrev new : List Body
    new = slice_set longer slot b

    pub new_length : length new ≡ length bodies + k
    new_length = length-set longer slot b ∙ length-append bodies (replicate k empty) ∙ ap (λ n. length bodies + n) (length-replicate k empty)

    pub new_here : slice_get new slot ≡ Some b
    new_here = get_set_same longer slot b old (get_append bodies (replicate k empty) slot old slot_here)

    pub new_other : (i : ℕ) (c : Body) → i ≢ slot → slice_get bodies i ≡ Some c → slice_get new i ≡ Some c
    new_other i c n e = get_set_other longer slot b i n ∙ get_append bodies (replicate k empty) i c e

    pub binds_other : (i : ℕ) → i ≢ slot → i < length bodies → binds_of new i ≡ binds_of bodies i
    binds_other i n l = ap (λ c. c.binds) (or_here new i empty (get_or bodies i empty) (new_other i (get_or bodies i empty) n (get_here bodies i empty l)))

    pub binds_here : binds_of new slot ≡ b.binds
    binds_here = ap (λ c. c.binds) (or_here new slot empty b new_here)

    new_end : (i : ℕ) (c : Body) → i ≢ slot → IsAmong i (slots ++ numbers (length bodies) k) → slice_get new i ≡ Some c → c.end ≡ end.Halt
    new_end i c n a e =
        ⊎_elim (λ (l : slice_get bodies i ≡ Some c). ⊎_elim
        (λ (j : IsAmong i slots). free.ends i c (inr j) l)
        (λ (j : IsAmong i (numbers (length bodies) k)). let q = numbers_among i (length bodies) k j in let q0 = q.0 in let z = get_lower bodies i c l in absurd (omega arith))
        (among_append i slots (numbers (length bodies) k) a))
        (λ (l : (d : ℕ) × (i ≡ length bodies + d) × (slice_get (replicate k empty) d ≡ Some c)). subst (λ d. d.end ≡ end.Halt) (get_empties k l.0 c l.2) refl)
        (get_split bodies (replicate k empty) i c (sym (get_set_other longer slot b i n) ∙ e))
      where
        get_lower : (bs : List Body) (i : ℕ) (c : Body) → slice_get bs i ≡ Some c → i < length bs
        get_lower [] i c e = absurd (cc)
        get_lower (x ∷ bs) zero c e = omega arith
        get_lower (x ∷ bs) (suc i) c e = let h = get_lower bs i c e in omega arith

    more_distinct : IsDistinct (slot ∷ (slots ++ numbers (length bodies) k))
    more_distinct = weighs_distinct (slot ∷ (slots ++ numbers (length bodies) k)) once
      where
        once : (x : ℕ) → own x slot + names_weigh (of_name x) (slots ++ numbers (length bodies) k) ≤ 1
        once x =
            let d = distinct_weighs (slot ∷ slots) free.distinct x in
            let a = weigh_append x slots (numbers (length bodies) k) in
            let o = numbers_one x (length bodies) k in
            ⊎_elim (λ (l : x < length bodies). let z = numbers_low x (length bodies) k l in omega arith)
            (λ (l : length bodies ≤ x). let z = below_none x (length bodies) (slot ∷ slots) l free.below in omega arith)
            (cases_lt x (length bodies))

    more_below : AllByRecursion (λ i. i < length new) (slots ++ numbers (length bodies) k)
    more_below = all_from (λ i. i < length new) (slots ++ numbers (length bodies) k) (λ i a. let n = new_length in ⊎_elim
        (λ (j : IsAmong i slots). let l = all_at (λ i. i < length bodies) slots i free.below.1 j in omega arith)
        (λ (j : IsAmong i (numbers (length bodies) k)). let q = numbers_among i (length bodies) k j in let q1 = q.1 in omega arith)
        (among_append i slots (numbers (length bodies) k) a))

    pub tree_grown : IsOneTree new
    tree_grown = grown bodies slot k old b free.tree slot_here parts

    -- it has its end
    pub ended : AreOpen (slots ++ numbers (length bodies) k) new
    ended = record {
      tree = tree_grown;
      distinct = more_distinct.1;
      below = more_below;
      ends = λ i c a e. new_end i c (λ q. ⊎_elim
          (λ (j : IsAmong i slots). slot_apart i j q)
          (λ (j : IsAmong i (numbers (length bodies) k)). let r = numbers_among i (length bodies) k j in let r0 = r.0 in let l = slot_below in absurd (omega arith))
          (among_append i slots (numbers (length bodies) k) a)) a e;
    }

    -- it goes on
    pub going : b.end ≡ end.Halt → AreOpen (slot ∷ (slots ++ numbers (length bodies) k)) new
    going halts = record {
      tree = tree_grown;
      distinct = more_distinct;
      below = (let l = slot_below in let n = new_length in omega arith, more_below);
      ends = ends;
    }
      where
        ends : (i : ℕ) (c : Body) → IsAmong i (slot ∷ (slots ++ numbers (length bodies) k)) → slice_get new i ≡ Some c → c.end ≡ end.Halt
        ends i c (inl q) e = some_eq (λ d. d.end ≡ end.Halt) b c (sym new_here ∙ sym (ap (slice_get new) q) ∙ e) halts
        ends i c (inr a) e = ended.ends i c a e

  old_parts : body_parts old ≡ flat_map bind_parts old.binds
  old_parts = ap (λ e. flat_map bind_parts old.binds ++ end_parts e) old_end ∙ append-nil (flat_map bind_parts old.binds)

  pub bind_parts_more : (b : Bind) → body_parts (and_bind b old) ≡ body_parts old ++ bind_parts b
  bind_parts_more b =
      ap (λ e. flat_map bind_parts (old.binds ++ b ∷ []) ++ end_parts e) old_end
      ∙ append-nil (flat_map bind_parts (old.binds ++ b ∷ []))
      ∙ flat_append bind_parts old.binds (b ∷ [])
      ∙ ap (λ ys. flat_map bind_parts old.binds ++ ys) (append-nil (bind_parts b))
      ∙ ap (λ xs. xs ++ bind_parts b) (sym old_parts)

  pub end_parts_more : (e : End) → body_parts (and_end e old) ≡ body_parts old ++ end_parts e
  end_parts_more e = ap (λ xs. xs ++ end_parts e) (sym old_parts)
