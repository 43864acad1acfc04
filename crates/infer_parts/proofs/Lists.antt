-- Lists that are gone through side by side.
use Rattle.std.proofs.Common.{◌≡◌, ℕ, zero, suc, ◌+◌, ◌<◌, ◌≤◌, Bool, true, false, cond, List, [], ◌∷◌, ◌++◌, length, Option, Some, None, refl, sym, ap, ◌∙◌, arith, subst, drop, nat_lt, nat_eq}
use Rattle.std.specs.Prelude.{slice_get}
use Rattle.std.specs.List.{AllByRecursion}
use Rattle.std.proofs.lemmas.Bool.{ltb-true, lt-ltb, eqb-true, eq-eqb}
use Rattle.sml_types.specs.declared.types.Ty.{Ty}
use Rattle.infer_parts.specs.Segments.{least_of}

abbrev pub prefixed : List Ty → Option (List Ty) → Option (List Ty)
prefixed ts None = None
prefixed ts (Some us) = Some (ts ++ us)

-- what is left begins with the item at this place
pub drop_here : {A : Type 0} (xs : List A) (i : ℕ) (x : A) → slice_get xs i ≡ Some x → drop i xs ≡ x ∷ drop (i + 1) xs
drop_here [] i x e = cc
drop_here (y ∷ xs) zero x e = let same : y ≡ x = cc in ap (λ z. z ∷ xs) same
drop_here (y ∷ xs) (suc i) x e = drop_here xs i x e ∙ ap (λ k. x ∷ drop k (y ∷ xs)) (let e : suc (i + 1) ≡ suc i + 1 = omega arith in e)

pub drop_end : {A : Type 0} (xs : List A) (i : ℕ) → length xs ≤ i → drop i xs ≡ []
drop_end [] zero l = refl
drop_end [] (suc i) l = refl
drop_end (x ∷ xs) zero l = absurd (omega arith)
drop_end (x ∷ xs) (suc i) l = drop_end xs i (omega arith)

-- the least number is no larger than the first, nor than any of the list
lower : (low c : ℕ) (b : Bool) → nat_lt c low ≡ b → (cond b c low ≤ low) × (cond b c low ≤ c)
lower low c true e = let l = ltb-true c low e in (omega arith, omega arith)
lower low c false e = let n : c < low → ⊥ = λ l. let z : true ≡ false = sym (lt-ltb c low l) ∙ e in cc in (omega arith, omega (arith, n))

pub least_low : (low : ℕ) (cs : List ℕ) → least_of low cs ≤ low
least_low low [] = omega arith
least_low low (c ∷ cs) = let l = least_low (cond (nat_lt c low) c low) cs in let m = (lower low c (nat_lt c low) refl).0 in omega arith

-- what is above a number is above a smaller one
pub all_above : (a b : ℕ) (cs : List ℕ) → a ≤ b → AllByRecursion (λ c. b ≤ c) cs → AllByRecursion (λ c. a ≤ c) cs
all_above a b [] l h = tt
all_above a b (c ∷ cs) l h = (let k = h.0 in omega arith, all_above a b cs l h.1)

pub least_all : (low : ℕ) (cs : List ℕ) → AllByRecursion (λ c. least_of low cs ≤ c) cs
least_all low [] = tt
least_all low (c ∷ cs) =
    let l = least_low (cond (nat_lt c low) c low) cs in
    let m = (lower low c (nat_lt c low) refl).1 in
    (omega arith, least_all (cond (nat_lt c low) c low) cs)

-- ---- Runs of numbers that have all their parts in them

module _ {F : Type 0} (parts : F → List ℕ) (forms : List F) where
  -- one more number before the others
  pub one_more : (first low at last : ℕ) (form : F) → slice_get forms at ≡ Some form → low ≤ first → AllByRecursion (λ c. low ≤ c) (parts form) → ((i : ℕ) (f : F) → at + 1 ≤ i → i ≤ last → slice_get forms i ≡ Some f → AllByRecursion (λ c. first ≤ c) (parts f)) → (i : ℕ) (f : F) → at ≤ i → i ≤ last → slice_get forms i ≡ Some f → AllByRecursion (λ c. low ≤ c) (parts f)
  one_more first low at last form here l now later i f lo hi q = by (nat_eq i at) refl
    where
      by : (b : Bool) → nat_eq i at ≡ b → AllByRecursion (λ c. low ≤ c) (parts f)
      by true e =
          let same : i ≡ at = eqb-true i at e in
          let one : Some form ≡ Some f = sym here ∙ ap (slice_get forms) (sym same) ∙ q in
          let is : form ≡ f = cc in
          subst (λ g. AllByRecursion (λ c. low ≤ c) (parts g)) is now
      by false e =
          let other : i ≡ at → ⊥ = λ s. let z : true ≡ false = sym (eq-eqb i at s) ∙ e in cc in
          all_above low first (parts f) l (later i f (omega (arith, other)) hi q)
