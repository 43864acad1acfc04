-- Headers of strings, signs, and what copies bytes.
use Rattle.std.proofs.Common.{◌≡◌, ℕ, suc, ◌+◌, ◌-◌, ◌*◌, ◌^◌, ◌<◌, ◌≤◌, List, [], ◌∷◌, length, get_or, true, false, ◌==◌, arith, refl, ap, ◌∙◌, subst, ⊎_elim, ◌⊎◌, inl, inr}
use Rattle.std.specs.Int.{w32, w64, from_le_bytes}
use Rattle.std.proofs.lemmas.Bool.{cases_lt}
use Rattle.std.proofs.lemmas.Bool.Decides.{nat_tests}
use Rattle.rv_machine.specs.Step.{is_less}
use Rattle.rv_run.specs.Seen.{listed_from}
use Rattle.rv_acts.specs.Emitted.{Emitted, base, IsLaid}
use Rattle.rv_acts.specs.Fine.{AllKnown, with_bytes, Fine}
use Rattle.rv_acts.specs.Trip.{Steady, WordIs}
use Rattle.rv_acts.proofs.Bytes.{bytes_in, bytes_out}
use Rattle.rv_acts.proofs.Trips.{steady_then}

pub laid_low : (I : Emitted) → IsLaid I → base + 4 * length I.code ≤ I.entries.arena
laid_low I laid = let a = laid.text in let b = laid.above in omega arith

pub laid_top : (I : Emitted) → IsLaid I → I.place + length I.literals < 2 ^ 63
laid_top I laid = let a = laid.above in let b = laid.high in omega arith

-- the upper half of a header
pub half_word : (m : ℕ → ℕ) (x h n : ℕ) → WordIs m x (h + 4294967296 * n) → h < 4294967296 → n < 4294967296 → AllKnown m (x + 4) 4 × (from_le_bytes w32 (listed_from m (x + 4) 4) ≡ n)
half_word m x h n w l k =
    let b0 = w.known 0 (omega arith) in
    let b1 = w.known 1 (omega arith) in
    let b2 = w.known 2 (omega arith) in
    let b3 = w.known 3 (omega arith) in
    let b4 = w.known 4 (omega arith) in
    let b5 = w.known 5 (omega arith) in
    let b6 = w.known 6 (omega arith) in
    let b7 = w.known 7 (omega arith) in
    let e : from_le_bytes w64 (m (x + 0) ∷ m (x + 1) ∷ m (x + 2) ∷ m (x + 3) ∷ m (x + 4) ∷ m (x + 5) ∷ m (x + 6) ∷ m (x + 7) ∷ []) ≡ h + 4294967296 * n = subst (λ l. from_le_bytes w64 l ≡ h + 4294967296 * n) (eight m x) w.is in
    (λ i q. subst (λ y. m y < 256) (let z : x + (4 + i) ≡ x + 4 + i = omega arith in z) (w.known (4 + i) (omega arith)), ap (from_le_bytes w32) (four m x) ∙ omega arith)
  where
    eight : (m : ℕ → ℕ) (x : ℕ) → listed_from m x 8 ≡ m (x + 0) ∷ m (x + 1) ∷ m (x + 2) ∷ m (x + 3) ∷ m (x + 4) ∷ m (x + 5) ∷ m (x + 6) ∷ m (x + 7) ∷ []
    eight m x =
        let e0 : x + 0 ≡ x = omega arith in
        let e1 : x + 1 ≡ suc x = omega arith in
        let e2 : x + 2 ≡ suc (suc x) = omega arith in
        let e3 : x + 3 ≡ suc (suc (suc x)) = omega arith in
        let e4 : x + 4 ≡ suc (suc (suc (suc x))) = omega arith in
        let e5 : x + 5 ≡ suc (suc (suc (suc (suc x)))) = omega arith in
        let e6 : x + 6 ≡ suc (suc (suc (suc (suc (suc x))))) = omega arith in
        let e7 : x + 7 ≡ suc (suc (suc (suc (suc (suc (suc x)))))) = omega arith in
        rw (e0, e1, e2, e3, e4, e5, e6, e7) refl

    four : (m : ℕ → ℕ) (x : ℕ) → listed_from m (x + 4) 4 ≡ m (x + 4) ∷ m (x + 5) ∷ m (x + 6) ∷ m (x + 7) ∷ []
    four m x =
        let e5 : x + 5 ≡ suc (x + 4) = omega arith in
        let e6 : x + 6 ≡ suc (suc (x + 4)) = omega arith in
        let e7 : x + 7 ≡ suc (suc (suc (x + 4))) = omega arith in
        rw (e5, e6, e7) refl

-- ---- signs

pub not_below_zero : (v : ℕ) → v < 9223372036854775808 → is_less v 0 ≡ false
not_below_zero v l = grind (arith, nat_tests)

pub below_zero : (v : ℕ) → 9223372036854775808 ≤ v → v < 2 ^ 64 → is_less v 0 ≡ true
below_zero v l h = grind (arith, nat_tests)

pub some_left : (v z k : ℕ) → v ≡ suc k → z ≡ 0 → (v == z) ≡ false
some_left v z k e f = grind (arith, nat_tests)

-- ---- so many bytes have been copied, and nothing else has changed

pub record Copied (I : Emitted) (f : ℕ → ℕ) (y i : ℕ) (a b : Fine) : Type 0 where
  pub steady : Steady I a b
  pub there : (j : ℕ) → j < i → b.byte (y + j) ≡ f j
  pub others : (x : ℕ) → (x < y) ⊎ (y + i ≤ x) → b.byte x ≡ a.byte x

pub copied_more : (I : Emitted) (f : ℕ → ℕ) (y i n : ℕ) (a b c : Fine) (new : List ℕ) → Copied I f y i a b → Steady I b c → length new ≡ n → ((j : ℕ) → j < n → get_or new j 0 ≡ f (i + j)) → ((x : ℕ) → c.byte x ≡ with_bytes b.byte (y + i) new x) → Copied I f y (i + n) a c
copied_more I f y i n a b c new k s l e m = record {
  steady = steady_then I a b c k.steady s;
  there = λ j h. ⊎_elim
      (λ (q : j < i). m (y + j) ∙ bytes_out b.byte (y + i) new (y + j) (inl (omega arith)) ∙ k.there j q)
      (λ (q : i ≤ j). m (y + j) ∙ bytes_in b.byte (y + i) new (y + j) (omega arith) (omega arith) ∙ ap (λ t. get_or new t 0) (let z : y + j - (y + i) ≡ j - i = omega arith in z) ∙ e (j - i) (omega arith) ∙ ap f (let z : i + (j - i) ≡ j = omega arith in z))
      (cases_lt j i);
  others = λ x q. ⊎_elim
      (λ (h : x < y). m x ∙ bytes_out b.byte (y + i) new x (inl (omega arith)) ∙ k.others x (inl h))
      (λ (h : y + (i + n) ≤ x). m x ∙ bytes_out b.byte (y + i) new x (inr (omega arith)) ∙ k.others x (inr (omega arith)))
      q;
}
