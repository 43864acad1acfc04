-- Numbers one after another, and what holds of each.
use Rattle.std.proofs.Common.{◌≡◌, ℕ, zero, suc, ◌+◌, ◌≤◌, ◌<◌, false, ◌||◌, List, [], ◌∷◌, ◌++◌, Some, length, refl, sym, ap, ◌∙◌, subst, arith, slice_get, ⊎_elim}
use Rattle.std.specs.List.{AllByRecursion}
use Rattle.std.proofs.lemmas.Bool.{cases_lt, ne_eqb}
use Rattle.sml_tree.specs.IsBare.{IsDistinct}
use Rattle.sml_tree.specs.Sets.{has}
use Rattle.sml_def.specs.Step.{count_up}
use Rattle.convert_steps.specs.Writes.{AreFrom}

count_both : (i m n : ℕ) → count_up i (m + n) ≡ count_up i m ++ count_up (i + m) n
count_both i zero n =
    let z : 0 + n ≡ n = omega arith in
    let e : i ≡ i + 0 = omega arith in
    ap (count_up i) z ∙ ap (λ k. count_up k n) e
count_both i (suc m) n =
    let z : suc m + n ≡ suc (m + n) = omega arith in
    let e : suc i + m ≡ i + suc m = omega arith in
    ap (count_up i) z ∙ ap (λ ks. i ∷ ks) (count_both (suc i) m n ∙ ap (λ k. count_up (suc i) m ++ count_up k n) e)

pub from_both : (from mid to : ℕ) (xs ys : List ℕ) → AreFrom from mid xs → AreFrom mid to ys → AreFrom from to (xs ++ ys)
from_both from mid to xs ys a b = record {
  many = a.many + b.many;
  are =
      ap (λ zs. zs ++ ys) a.are ∙ ap (λ zs. count_up from a.many ++ zs) (b.are ∙ ap (λ k. count_up k b.many) (sym a.up))
      ∙ sym (count_both from a.many b.many);
  up = omega (arith, a.up, b.up);
}

pub from_none : (from : ℕ) → AreFrom from from []
from_none from = record { many = 0; are = refl; up = omega arith }

-- of each number in a range
count_all : (P : ℕ → Type 0) (i n : ℕ) → ((c : ℕ) → i ≤ c → c < i + n → P c) → AllByRecursion P (count_up i n)
count_all P i zero h = tt
count_all P i (suc n) h = (h i (omega arith) (omega arith), count_all P (suc i) n (λ c l k. h c (omega arith) (omega arith)))

all_count : (P : ℕ → Type 0) (i n c : ℕ) → AllByRecursion P (count_up i n) → i ≤ c → c < i + n → P c
all_count P i zero c h l k = absurd (omega arith)
all_count P i (suc n) c h l k =
    ⊎_elim (λ (e : i < c). all_count P (suc i) n c h.1 (omega arith) (omega arith)) (λ (e : c ≤ i). subst P (let q : i ≡ c = omega arith in q) h.0) (cases_lt i c)

pub from_all : (P : ℕ → Type 0) (from to : ℕ) (xs : List ℕ) → AreFrom from to xs → ((c : ℕ) → from ≤ c → c < to → P c) → AllByRecursion P xs
from_all P from to xs a h =
    subst (AllByRecursion P) (sym a.are) (count_all P from a.many (λ c l k. h c l (let u = a.up in omega arith)))

pub all_from : (P : ℕ → Type 0) (from to c : ℕ) (xs : List ℕ) → AreFrom from to xs → AllByRecursion P xs → from ≤ c → c < to → P c
all_from P from to c xs a h l k =
    all_count P from a.many c (subst (AllByRecursion P) a.are h) l (let u = a.up in omega arith)

not_among : (x i n : ℕ) → x < i → has (count_up i n) x ≡ false
not_among x i zero h = refl
not_among x i (suc n) h = ap (λ b. b || has (count_up (suc i) n) x) (ne_eqb x i (λ e. omega arith)) ∙ not_among x (suc i) n (omega arith)

count_once : (i n : ℕ) → IsDistinct (count_up i n)
count_once i zero = tt
count_once i (suc n) = (not_among i (suc i) n (omega arith), count_once (suc i) n)

pub from_once : (from to : ℕ) (xs : List ℕ) → AreFrom from to xs → IsDistinct xs
from_once from to xs a = subst IsDistinct (sym a.are) (count_once from a.many)

count_length : (i n : ℕ) → length (count_up i n) ≡ n
count_length i zero = refl
count_length i (suc n) = ap suc (count_length (suc i) n)

pub from_length : (from to : ℕ) (xs : List ℕ) → AreFrom from to xs → from + length xs ≡ to
from_length from to xs a = let l : length xs ≡ a.many = ap length a.are ∙ count_length from a.many in let u = a.up in omega arith

pub within : {A : Type 0} (xs : List A) (i : ℕ) (x : A) → slice_get xs i ≡ Some x → i < length xs
within [] i x e = absurd cc
within (y ∷ xs) zero x e = omega arith
within (y ∷ xs) (suc i) x e = let h = within xs i x e in omega arith

pub by_index : {A : Type 0} (P : A → Type 0) (xs : List A) → ((i : ℕ) (x : A) → slice_get xs i ≡ Some x → P x) → AllByRecursion P xs
by_index P [] h = tt
by_index P (x ∷ xs) h = (h 0 x refl, by_index P xs (λ i y e. h (suc i) y e))
