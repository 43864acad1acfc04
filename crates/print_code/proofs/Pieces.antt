-- one piece more
use Rattle.std.proofs.Common.{◌≡◌, ℕ, ◌+◌, ◌<◌, ◌≤◌, List, [], ◌∷◌, ◌++◌, length, arith, sym, ap, subst, ◌∙◌, length-append}
use Rattle.std.specs.Prelude.{All}
use Rattle.std.proofs.lemmas.List.Elements.{All-push}
use Rattle.print_code.specs.Code.{total, IsPositive, IsStraight}

total-push : (xs : List ℕ) (n : ℕ) → total (xs ++ n ∷ []) ≡ total xs + n
total-push [] n = omega arith
total-push (x ∷ xs) n = let again = total-push xs n in omega (arith, again)

pub straight_more : (lengths text piece lengths' text' : List ℕ) (n : ℕ) → IsStraight lengths text → text' ≡ text ++ piece → lengths' ≡ lengths ++ n ∷ [] → n ≡ length piece → 0 < n → n + length text ≤ 1048576 → IsStraight lengths' text'
straight_more lengths text piece lengths' text' n s e k size some few =
    let long : length text' ≡ length text + length piece = ap length e ∙ length-append text piece in
    let sum : total lengths' ≡ total lengths + n = ap total k ∙ total-push lengths n in
    record {
      sums = omega (arith, s.sums);
      positive = subst (λ (xs : List ℕ). All IsPositive xs) (sym k) (All-push IsPositive lengths n s.positive some);
      bounded = omega arith;
    }
