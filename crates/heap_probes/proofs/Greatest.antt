-- The greatest number, from the end of a list on.
use Rattle.std.proofs.Common.{◌≡◌, ℕ, zero, suc, ◌-◌, ◌<◌, ◌≤◌, max, List, [], ◌∷◌, length, drop, ap, ◌∙◌, arith}
use Rattle.std.specs.Prelude.{get_or}
use Rattle.heap_probes.specs.Rules.{greatest}

pub greatest_step : (xs : List ℕ) (at x m : ℕ) → at < length xs → x ≡ get_or xs at x → m ≡ greatest (drop (suc at) xs) → max x m ≡ greatest (drop at xs)
greatest_step [] at x m l i e = absurd (omega arith)
greatest_step (y ∷ ys) zero x m l i e = ap (λ k. max k m) i ∙ ap (max y) e
greatest_step (y ∷ ys) (suc at) x m l i e = greatest_step ys at x m (omega arith) i e

-- one before
pub greatest_before : (xs : List ℕ) (at x m : ℕ) → 0 < at → at ≤ length xs → x ≡ get_or xs (at - 1) x → m ≡ greatest (drop at xs) → max x m ≡ greatest (drop (at - 1) xs)
greatest_before xs zero x m some l i e = absurd (omega arith)
greatest_before xs (suc at) x m some l i e =
    let low : suc at - 1 ≡ at = omega arith in
    rw low (greatest_step xs at x m (omega arith) (rw low at i) e)
