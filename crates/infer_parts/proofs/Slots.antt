-- Distinct places below a number are all places below it, so a record type with given places is one.
use Rattle.std.proofs.Common.{◌≡◌, ℕ, zero, suc, ◌<◌, ◌≤◌, Bool, true, false, cond, List, [], ◌∷◌, length, Some, refl, sym, ap, ◌∙◌, arith, subst, map, nat_eq}
use Rattle.std.specs.Prelude.{slice_get, ◌||◌}
use Rattle.std.specs.List.{AllByRecursion}
use Rattle.std.proofs.lemmas.Bool.{eq-eqb, eqb-true}
use Rattle.sml_tree.specs.declared.bare.TypeField.{TypeField}
use Rattle.sml_tree.specs.Sets.{has}
use Rattle.sml_tree.specs.IsBare.{IsDistinct}
use Rattle.sml_types.specs.Tree.{FieldsHead, Tree, App}
use Rattle.sml_types.specs.Library.{parts}
use Rattle.sml_types.specs.TypeExps.{Labelled, IsRecord, labelled}
use Rattle.infer_parts.specs.Written.{IsTypeRow}
use Rattle.sml_types.proofs.TreeFacts.{either, or_none}

-- ---- Pigeons

without : ℕ → List ℕ → List ℕ
without n [] = []
without n (x ∷ xs) = cond (nat_eq x n) (without n xs) (x ∷ without n xs)

has_one : (n x y : ℕ) (xs : List ℕ) (b : Bool) → nat_eq y x ≡ false → has (without n xs) y ≡ false → has (cond b (without n xs) (x ∷ without n xs)) y ≡ false
has_one n x y xs true a r = r
has_one n x y xs false a r = ap (λ w. w || has (without n xs) y) a ∙ r

has_without : (n y : ℕ) (xs : List ℕ) → has xs y ≡ false → has (without n xs) y ≡ false
unfolding without
has_without n y [] h = refl
has_without n y (x ∷ xs) h =
    let p = or_none (nat_eq y x) (has xs y) h in has_one n x y xs (nat_eq x n) p.0 (has_without n y xs p.1)

distinct_one : (n x : ℕ) (xs : List ℕ) (b : Bool) → has (without n xs) x ≡ false → IsDistinct (without n xs) → IsDistinct (cond b (without n xs) (x ∷ without n xs))
distinct_one n x xs true h r = r
distinct_one n x xs false h r = (h, r)

distinct_without : (n : ℕ) (xs : List ℕ) → IsDistinct xs → IsDistinct (without n xs)
unfolding without
distinct_without n [] h = tt
distinct_without n (x ∷ xs) h = distinct_one n x xs (nat_eq x n) (has_without n x xs h.0) (distinct_without n xs h.1)

below_one : (n x : ℕ) (xs : List ℕ) (b : Bool) → nat_eq x n ≡ b → x < suc n → AllByRecursion (λ y. y < n) (without n xs) → AllByRecursion (λ y. y < n) (cond b (without n xs) (x ∷ without n xs))
below_one n x xs true e l r = r
below_one n x xs false e l r = (let other : x ≡ n → ⊥ = λ q. let z : true ≡ false = sym (eq-eqb x n q) ∙ e in cc in omega (arith, other), r)

below_without : (n : ℕ) (xs : List ℕ) → AllByRecursion (λ x. x < suc n) xs → AllByRecursion (λ x. x < n) (without n xs)
unfolding without
below_without n [] h = tt
below_without n (x ∷ xs) h = below_one n x xs (nat_eq x n) refl h.0 (below_without n xs h.1)

gone_one : (n x : ℕ) (xs : List ℕ) (b : Bool) → nat_eq x n ≡ b → nat_eq n x ≡ false → without n xs ≡ xs → cond b (without n xs) (x ∷ without n xs) ≡ x ∷ xs
gone_one n x xs true e p r = let z : true ≡ false = sym (eq-eqb n x (sym (eqb-true x n e))) ∙ p in cc
gone_one n x xs false e p r = ap (λ ys. x ∷ ys) r

none_gone : (n : ℕ) (xs : List ℕ) → has xs n ≡ false → without n xs ≡ xs
unfolding without
none_gone n [] h = refl
none_gone n (x ∷ xs) h =
    let p = or_none (nat_eq n x) (has xs n) h in gone_one n x xs (nat_eq x n) refl p.0 (none_gone n xs p.1)

count_one : (n x : ℕ) (xs : List ℕ) (b : Bool) → nat_eq x n ≡ b → has xs x ≡ false → length xs ≤ suc (length (without n xs)) → suc (length xs) ≤ suc (length (cond b (without n xs) (x ∷ without n xs)))
count_one n x xs true e h r =
    let same = ap length (none_gone n xs (subst (λ y. has xs y ≡ false) (eqb-true x n e) h)) in omega arith
count_one n x xs false e h r = omega arith

one_gone : (n : ℕ) (xs : List ℕ) → IsDistinct xs → length xs ≤ suc (length (without n xs))
unfolding without
one_gone n [] h = omega arith
one_gone n (x ∷ xs) h = count_one n x xs (nat_eq x n) refl h.0 (one_gone n xs h.1)

-- distinct numbers below n are n at most
few : (n : ℕ) (xs : List ℕ) → IsDistinct xs → AllByRecursion (λ x. x < n) xs → length xs ≤ n
few zero [] d b = omega arith
few zero (x ∷ xs) d b = let l = b.0 in absurd (omega arith)
few (suc n) xs d b =
    let r = few n (without n xs) (distinct_without n xs d) (below_without n xs b) in let o = one_gone n xs d in omega arith

-- as many distinct numbers below n are all of them
pub all_there : (n : ℕ) (xs : List ℕ) (s : ℕ) → IsDistinct xs → AllByRecursion (λ x. x < n) xs → length xs ≡ n → s < n → has xs s ≡ true
all_there n xs s d b c l = by (has xs s) refl
  where
    by : (w : Bool) → has xs s ≡ w → has xs s ≡ true
    by true e = e
    by false e = let r = few n (s ∷ xs) (e, d) (l, b) in absurd (omega arith)

-- ---- Records

same_items : {A : Type 0} (xs ys : List A) → length xs ≡ length ys → ((i : ℕ) → i < length xs → slice_get xs i ≡ slice_get ys i) → xs ≡ ys
same_items [] [] c h = refl
same_items [] (y ∷ ys) c h = absurd (omega arith)
same_items (x ∷ xs) [] c h = absurd (omega arith)
same_items (x ∷ xs) (y ∷ ys) c h =
    let first : Some x ≡ Some y = h 0 (omega arith) in
    let head : x ≡ y = cc in
    let rest = same_items xs ys (omega arith) (λ i l. h (suc i) (omega arith)) in
    cc

pub labelled_slots : (fields : List TypeField) (ts : List Tree) → length ts ≡ length fields → map (λ f. f.slot) (labelled fields ts) ≡ map (λ f. f.slot) fields
labelled_slots [] ts c = refl
labelled_slots (f ∷ fields) [] c = absurd (omega arith)
labelled_slots (f ∷ fields) (t ∷ ts) c = ap (λ is. f.slot ∷ is) (labelled_slots fields ts (omega arith))

pub labelled_count : (fields : List TypeField) (ts : List Tree) → length ts ≡ length fields → length (labelled fields ts) ≡ length fields
labelled_count [] ts c = refl
labelled_count (f ∷ fields) [] c = absurd (omega arith)
labelled_count (f ∷ fields) (t ∷ ts) c = ap suc (labelled_count fields ts (omega arith))

-- two lists that have the same at each field's place
agree : {A : Type 0} (part : Labelled → A) (fs : List Labelled) (xs ys : List A) (s : ℕ) → AllByRecursion (λ f. slice_get xs f.slot ≡ Some (part f)) fs → AllByRecursion (λ f. slice_get ys f.slot ≡ Some (part f)) fs → has (map (λ f. f.slot) fs) s ≡ true → slice_get xs s ≡ slice_get ys s
agree part [] xs ys s p q h = cc
agree part (f ∷ fs) xs ys s p q h =
    either
    (nat_eq s f.slot)
    (has (map (λ g. g.slot) fs) s)
    (slice_get xs s ≡ slice_get ys s)
    h
    (λ e. ap (slice_get xs) (eqb-true s f.slot e) ∙ p.0 ∙ sym q.0 ∙ sym (ap (slice_get ys) (eqb-true s f.slot e)))
    (λ e. agree part fs xs ys s p.1 q.1 e)

all_first : (P Q : Labelled → Type 0) (fs : List Labelled) → AllByRecursion (λ f. P f × Q f) fs → AllByRecursion P fs
all_first P Q [] h = tt
all_first P Q (f ∷ fs) h = (h.0.0, all_first P Q fs h.1)

all_second : (P Q : Labelled → Type 0) (fs : List Labelled) → AllByRecursion (λ f. P f × Q f) fs → AllByRecursion Q fs
all_second P Q [] h = tt
all_second P Q (f ∷ fs) h = (h.0.1, all_second P Q fs h.1)

pub slots_all : (P : ℕ → Type 0) (fields : List TypeField) → AllByRecursion (λ f. P f.slot) fields → AllByRecursion P (map (λ f. f.slot) fields)
slots_all P [] h = tt
slots_all P (f ∷ fields) h = (h.0, slots_all P fields h.1)

pub length-slots : (fields : List TypeField) → length (map (λ f. f.slot) fields) ≡ length fields
length-slots [] = refl
length-slots (f ∷ fields) = ap suc (length-slots fields)

-- a record type with these fields is one
pub one_record : (fields : List TypeField) (ts : List Tree) (t u : Tree) → IsTypeRow fields → length ts ≡ length fields → IsRecord (labelled fields ts) t → IsRecord (labelled fields ts) u → t ≡ u
one_record fields ts t u row count a b =
    let n = labelled_count fields ts count in
    let everywhere : (s : ℕ) → s < length fields → has (map (λ f. f.slot) (labelled fields ts)) s ≡ true =
    λ s l. ap (λ is. has is s) (labelled_slots fields ts count) ∙ all_there (length fields) (map (λ f. f.slot) fields) s row.0 (slots_all (λ x. x < length fields) fields row.1) (length-slots fields) l in
    let labs : a.labs ≡ b.labs =
    same_items a.labs b.labs (a.labs_count ∙ sym b.labs_count) (λ s l. agree (λ f. f.lab) (labelled fields ts) a.labs b.labs s (all_first (λ f. slice_get a.labs f.slot ≡ Some f.lab) (λ f. slice_get a.types f.slot ≡ Some f.ty) (labelled fields ts) a.placed) (all_first (λ f. slice_get b.labs f.slot ≡ Some f.lab) (λ f. slice_get b.types f.slot ≡ Some f.ty) (labelled fields ts) b.placed) (everywhere s (let z = a.labs_count in omega arith))) in
    let types : a.types ≡ b.types =
    same_items a.types b.types (a.types_count ∙ sym b.types_count) (λ s l. agree (λ f. f.ty) (labelled fields ts) a.types b.types s (all_second (λ f. slice_get a.labs f.slot ≡ Some f.lab) (λ f. slice_get a.types f.slot ≡ Some f.ty) (labelled fields ts) a.placed) (all_second (λ f. slice_get b.labs f.slot ≡ Some f.lab) (λ f. slice_get b.types f.slot ≡ Some f.ty) (labelled fields ts) b.placed) (everywhere s (let z = a.types_count in omega arith))) in
    a.is ∙ ap (λ ls. App (FieldsHead ls) (parts a.types)) labs ∙ ap (λ us. App (FieldsHead b.labs) (parts us)) types ∙ sym b.is
