-- Two rules of which the first has tests.
use Rattle.std.proofs.Common.{◌≡◌, ℕ, ◌≤◌, Bool, true, List, [], ◌∷◌, length, refl, ap, arith}
use Rattle.std.specs.Prelude.{get_or}
use Rattle.smlc_base.specs.declared.match_tests.Test.{Test}
use Rattle.lambda_ir.specs.declared.term.Case.{Case}
use Rattle.convert_laws.specs.Needs.{live, live_from, in_two}

behind : (f : ℕ → Bool) (c d : Case) (tests : List Test) (cases : List Case) → in_two f (c ∷ live_from tests d cases) ≡ true
behind f c d [] cases = refl
behind f c d (t ∷ tests) cases = refl

with_tests : (f : ℕ → Bool) (c d : Case) (tests : List Test) (cases : List Case) → 1 ≤ length tests → in_two f (live_from tests c (live (d ∷ cases))) ≡ true
with_tests f c d [] cases h = absurd (omega (arith, h))
with_tests f c d (t ∷ tests) cases h = behind f c d d.tests (live cases)

pub two_rules : (f : ℕ → Bool) (cases : List Case) (c : Case) → 2 ≤ length cases → c ≡ get_or cases 0 c → 1 ≤ length c.tests → in_two f (live cases) ≡ true
two_rules f [] c h e t = absurd (omega (arith, h))
two_rules f (x ∷ []) c h e t = absurd (omega (arith, h))
two_rules f (x ∷ d ∷ cases) c h e t =
    let same : length c.tests ≡ length x.tests = ap (λ (y : Case). length y.tests) e in
    with_tests f x d x.tests cases (omega (arith, t, same))
