-- Texts that are put one behind the other.
use Rattle.std.proofs.Common.{◌≡◌, ℕ, suc, ◌+◌, ◌≤◌, min, List, [], ◌∷◌, ◌++◌, length, take, Result, Ok, Err, sym, ap, ◌∙◌, arith, append_assoc}
use Rattle.std.proofs.lemmas.List.{take-append-le, take_min}
use Rattle.heap_probes.specs.Lines.{Puts}

past : (a b : List ℕ) (n : ℕ) → take (length a + n) (a ++ b) ≡ a ++ take n b
past [] b n = let e : 0 + n ≡ n = omega arith in ap (λ k. take k b) e
past (x ∷ a) b n =
    let e : length (x ∷ a) + n ≡ suc (length a + n) = omega arith in
    ap (λ k. take k (x ∷ (a ++ b))) e ∙ ap (λ xs. x ∷ xs) (past a b n)

-- behind the whole of the first text
pub joins : {T E : Type 0} (a b old mid new : List ℕ) (r : Result T E) → mid ≡ old ++ a → Puts b mid new r → Puts (a ++ b) old new r
joins a b old mid new (Ok u) m h = h ∙ ap (λ xs. xs ++ b) m ∙ append_assoc old a b
joins a b old mid new (Err e) m h = (length a + h.0, h.1 ∙ ap (λ xs. xs ++ take h.0 b) m ∙ append_assoc old a (take h.0 b) ∙ ap (λ xs. old ++ xs) (sym (past a b h.0)))

-- a part of the first is a part of both
pub front : (a b old new : List ℕ) → (n : ℕ) × (new ≡ old ++ take n a) → (n : ℕ) × (new ≡ old ++ take n (a ++ b))
front a b old new h =
    let low : min h.0 (length a) ≤ length a = grind arith in
    (min h.0 (length a), h.1 ∙ ap (λ xs. old ++ xs) (sym (take-append-le (min h.0 (length a)) a b low ∙ take_min h.0 a)))
