-- The scan of long identifiers goes on over what is left.
use Rattle.std.proofs.Common.{◌≡◌, ◌≢◌, ℕ, zero, suc, ◌+◌, ◌<◌, ◌≤◌, true, false, List, length, drop, get_or, refl, sym, ap, ◌∙◌, arith}
use Rattle.std.proofs.lemmas.Bool.{eq-eqb, ne_eqb, cond-true, cond-false}
use Rattle.std.proofs.lemmas.List.{get_or-drop, drop-drop, get_or_past}
use Rattle.sml_lexer.specs.declared.plain.AfterDot.{AfterDot}
use Rattle.sml_lexer.specs.PlainScan.{part_at, dots, joined}

pub dots_stop : (fuel : ℕ) (s : List ℕ) → get_or s 0 0 ≢ 46 → dots fuel s ≡ 0
dots_stop zero s h = refl
dots_stop (suc fuel) s h = cond-false _ _ _ (ne_eqb _ _ h)

pub joined_nothing : (p : AfterDot) (more : ℕ) → p.len ≡ 0 → joined p more ≡ 0
joined_nothing p more h = cond-true _ _ _ (eq-eqb _ _ h)

pub joined_last : (p : AfterDot) (more : ℕ) → p.len ≢ 0 → p.goes_on ≡ false → joined p more ≡ 1 + p.len
joined_last p more h e = cond-false _ _ _ (ne_eqb _ _ h) ∙ cond-false _ _ _ e

pub joined_more : (p : AfterDot) (more : ℕ) → p.len ≢ 0 → p.goes_on ≡ true → joined p more ≡ 1 + p.len + more
joined_more p more h e = cond-false _ _ _ (ne_eqb _ _ h) ∙ cond-true _ _ _ e

-- what is left at a place
abbrev pub Left : ℕ → List ℕ → ℕ → ℕ → Type 0
Left total bytes end fuel = (length bytes ≤ fuel + end) × (end + dots fuel (drop end bytes) ≡ total)

module _ (total : ℕ) (bytes : List ℕ) (end : ℕ) where
  first_byte : get_or (drop end bytes) 0 0 ≡ get_or bytes end 0
  first_byte = get_or-drop end bytes 0 0 ∙ ap (λ k. get_or bytes k 0) (omega arith)

  pub left_stop : (fuel : ℕ) → Left total bytes end fuel → get_or bytes end 0 ≢ 46 → end ≡ total
  left_stop fuel l h = let e = dots_stop fuel (drop end bytes) (λ x. h (sym first_byte ∙ x)) in omega (arith, l.1)

  module _ (dot : get_or bytes end 0 ≡ 46) (p : AfterDot) (is : p ≡ part_at (drop (end + 1) bytes)) where
    past : end < length bytes
    past = let h : length bytes ≤ end → ⊥ = (λ p. let z = get_or_past bytes end 0 p in omega arith) in omega (arith, h)

    step : (fuel : ℕ) → dots (suc fuel) (drop end bytes) ≡ joined p (dots fuel (drop (end + (1 + p.len)) bytes))
    step fuel =
        cond-true _ _ _ (eq-eqb _ _ (first_byte ∙ dot))
        ∙ ap (λ q. joined q (dots fuel (drop (1 + q.len) (drop end bytes)))) (ap part_at (drop-drop 1 end bytes) ∙ sym is)
        ∙ ap (λ r. joined p (dots fuel r)) (drop-drop (1 + p.len) end bytes)

    pub left_nothing : (fuel : ℕ) → Left total bytes end fuel → p.len ≡ 0 → end ≡ total
    left_nothing zero l h = omega (arith, l.0, past)
    left_nothing (suc fuel) l h = let e = step fuel ∙ joined_nothing p _ h in omega (arith, l.1)

    pub left_last : (fuel : ℕ) → Left total bytes end fuel → p.len ≢ 0 → p.goes_on ≡ false → end + 1 + p.len ≡ total
    left_last zero l h n = omega (arith, l.0, past)
    left_last (suc fuel) l h n = let e = step fuel ∙ joined_last p _ h n in omega (arith, l.1)

    pub left_more : (fuel : ℕ) → Left total bytes end fuel → p.len ≢ 0 → p.goes_on ≡ true → (f : ℕ) × Left total bytes (end + 1 + p.len) f
    left_more zero l h n = absurd (omega (arith, l.0, past))
    left_more (suc fuel) l h n =
        let e = step fuel ∙ joined_more p _ h n in
        let k : end + (1 + p.len) ≡ end + 1 + p.len = omega arith in
        let d = ap (λ x. dots fuel (drop x bytes)) k in
        (fuel, (omega (arith, l.0), omega (arith, l.1, e, d)))
