-- Words as bytes.
use Rattle.std.proofs.Common.{◌≡◌, ℕ, zero, suc, ◌+◌, ◌-◌, ◌^◌, ◌<◌, ◌≤◌, List, [], ◌∷◌, length, get_or, arith, refl, sym, ap, ◌∙◌, subst, ⊎_elim}
use Rattle.std.specs.Int.{w64, from_le_bytes, to_le_bytes}
use Rattle.std.proofs.lemmas.Bool.{cases_lt}
use Rattle.std.proofs.lemmas.List.{get_or_past}
use Rattle.std.proofs.lemmas.Nat.{from_le_bytes-to_le_bytes_8, le_bytes_8}
use Rattle.rv_run.specs.Seen.{listed_from}
use Rattle.rv_acts.specs.Fine.{AllKnown, with_bytes}
use Rattle.rv_acts.specs.Trip.{WordIs}
use Rattle.rv_acts.proofs.Bytes.{bytes_in}

-- ---- lists of bytes

pub get_listed : (m : ℕ → ℕ) (x n i : ℕ) → i < n → get_or (listed_from m x n) i 0 ≡ m (x + i)
get_listed m x zero i l = absurd (omega arith)
get_listed m x (suc n) zero l = ap m (omega arith)
get_listed m x (suc n) (suc i) l = get_listed m (suc x) n i (omega arith) ∙ ap m (omega arith)

pub length_listed : (m : ℕ → ℕ) (x n : ℕ) → length (listed_from m x n) ≡ n
length_listed m x zero = refl
length_listed m x (suc n) = ap suc (length_listed m (suc x) n)

-- a word that was read is written as its bytes
pub same_bytes : (m : ℕ → ℕ) (x : ℕ) → AllKnown m x 8 → to_le_bytes w64 (from_le_bytes w64 (listed_from m x 8)) ≡ listed_from m x 8
same_bytes m x k = le_bytes_8 (listed_from m x 8) (from_le_bytes w64 (listed_from m x 8)) refl (λ i. ⊎_elim (λ (l : i < 8). subst (λ v. v < 256) (sym (get_listed m x 8 i l)) (k i l)) (λ (l : 8 ≤ i). subst (λ v. v < 256) (sym (get_or_past (listed_from m x 8) i 0 l)) (omega arith)) (cases_lt i 8)) refl

-- a word that was written is there
pub written : (m : ℕ → ℕ) (x v : ℕ) → v < 2 ^ 64 → WordIs (with_bytes m x (to_le_bytes w64 v)) x v
written m x v l =
    let e : (i : ℕ) → i < 8 → with_bytes m x (to_le_bytes w64 v) (x + i) ≡ get_or (to_le_bytes w64 v) i 0 = λ i h. bytes_in m x (to_le_bytes w64 v) (x + i) (omega arith) (omega arith) ∙ ap (λ k. get_or (to_le_bytes w64 v) k 0) (let q : x + i - x ≡ i = omega arith in q) in
    record {
      known = λ i h. subst (λ b. b < 256) (sym (e i h)) (below i h);
      is = ap (from_le_bytes w64) (all e) ∙ from_le_bytes-to_le_bytes_8 v l;
    }
  where
    below : (i : ℕ) → i < 8 → get_or (to_le_bytes w64 v) i 0 < 256
    below zero h = omega arith
    below (suc zero) h = omega arith
    below (suc (suc zero)) h = omega arith
    below (suc (suc (suc zero))) h = omega arith
    below (suc (suc (suc (suc zero)))) h = omega arith
    below (suc (suc (suc (suc (suc zero))))) h = omega arith
    below (suc (suc (suc (suc (suc (suc zero)))))) h = omega arith
    below (suc (suc (suc (suc (suc (suc (suc zero))))))) h = omega arith
    below (suc (suc (suc (suc (suc (suc (suc (suc i)))))))) h = absurd (omega arith)

    all : ((i : ℕ) → i < 8 → with_bytes m x (to_le_bytes w64 v) (x + i) ≡ get_or (to_le_bytes w64 v) i 0) → listed_from (with_bytes m x (to_le_bytes w64 v)) x 8 ≡ to_le_bytes w64 v
    all e = go 8 (to_le_bytes w64 v) x refl e
      where
        go : (n : ℕ) (new : List ℕ) (y : ℕ) → length new ≡ n → ((i : ℕ) → i < n → with_bytes m x (to_le_bytes w64 v) (y + i) ≡ get_or new i 0) → listed_from (with_bytes m x (to_le_bytes w64 v)) y n ≡ new
        go zero [] y l h = refl
        go zero (b ∷ new) y l h = absurd (omega arith)
        go (suc n) [] y l h = absurd (omega arith)
        go (suc n) (b ∷ new) y l h =
            let first : with_bytes m x (to_le_bytes w64 v) y ≡ b = let q : y + 0 ≡ y = omega arith in subst (λ y. with_bytes m x (to_le_bytes w64 v) y ≡ b) q (h 0 (omega arith)) in
            let rest = go n new (suc y) (omega arith) (λ i l. let q : y + suc i ≡ suc y + i = omega arith in subst (λ y. with_bytes m x (to_le_bytes w64 v) y ≡ get_or new i 0) q (h (suc i) (omega arith))) in
            cc
