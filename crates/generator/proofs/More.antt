-- A line is put behind those before it, and the last one behind all.
use Rattle.std.proofs.Common.{◌≡◌, ℕ, zero, suc, ◌+◌, ◌-◌, ◌<◌, ◌≤◌, List, ◌++◌, refl, sym, ap, ◌∙◌, arith, append_assoc}
use Rattle.generator.specs.Text.{next, draw, line, last_line, lines}

one_line : (k i x : ℕ) → lines (suc k) i x ≡ line i (draw (next x)) ++ lines k (suc i) (next x)
one_line k i x = refl

pub line_more : (size i x y : ℕ) (old new all : List ℕ) → i < size → y ≡ next x → new ≡ old ++ line i (draw y) → old ++ lines (size - i) i x ≡ all → new ++ lines (size - (i + 1)) (i + 1) y ≡ all
line_more size i x y old new all lt n e h =
    let left : size - i ≡ suc (size - (i + 1)) = omega (arith, lt) in
    let up : i + 1 ≡ suc i = omega arith in
    ap (λ t. t ++ lines (size - (i + 1)) (i + 1) y) e
    ∙ append_assoc old (line i (draw y)) (lines (size - (i + 1)) (i + 1) y)
    ∙ ap (λ j. old ++ (line i (draw y) ++ lines (size - (i + 1)) j y)) up
    ∙ ap (λ z. old ++ (line i (draw z) ++ lines (size - (i + 1)) (suc i) z)) n
    ∙ ap (λ l. old ++ l) (sym (one_line (size - (i + 1)) i x))
    ∙ sym (ap (λ k. old ++ lines k i x) left)
    ∙ h

pub all_lines : (size i x : ℕ) (old new all : List ℕ) → i ≤ size → size ≤ i → new ≡ old ++ last_line (size - 1) → old ++ lines (size - i) i x ≡ all → new ≡ all
all_lines size i x old new all le over e h =
    let none : size - i ≡ 0 = omega (arith, over) in
    let same : i ≡ size = omega (arith, le, over) in
    e ∙ ap (λ j. old ++ last_line (j - 1)) (sym same) ∙ sym (ap (λ k. old ++ lines k i x) none) ∙ h
