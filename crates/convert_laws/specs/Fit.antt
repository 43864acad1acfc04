-- What is asked of a decision which frames have functions of their own.
use Rattle.std.specs.Prelude.{◌≡◌, ℕ, Bool, true, false, List, [], ◌∷◌, Some, slice_get}
use Rattle.lambda_ir.specs.declared.term.Case.{Case}
use Rattle.lambda_ir.specs.declared.term.Term.{Term}
use Rattle.lambda_ir.specs.declared.term.Term.TheVariants as term
use Rattle.convert_laws.specs.Needs.{head_at, calls, live}

-- a list of rules goes on in two places, or where its one rule does
abbrev pub IsNeedyIn : (ℕ → Bool) → List Case → ℕ → Type 0
IsNeedyIn needy [] i = Unit {0}
IsNeedyIn needy (c ∷ []) i = needy c.body ≡ true → needy i ≡ true
IsNeedyIn needy (c ∷ d ∷ cases) i = needy i ≡ true

-- a term whose tail position wants its continuation as an atom wants it too
abbrev pub IsNeedy : List Term → (ℕ → Bool) → ℕ → Term → Type 0
IsNeedy terms needy i (term.App f a) = calls (head_at terms f) ≡ true → needy i ≡ true
IsNeedy terms needy i (term.Match e cases) = IsNeedyIn needy (live cases) i
IsNeedy terms needy i (term.Handle e cases) = needy i ≡ true
IsNeedy terms needy i (term.Same e) = needy e ≡ true → needy i ≡ true
IsNeedy terms needy i (term.Let d body) = needy body ≡ true → needy i ≡ true
IsNeedy terms needy i _ = Unit {0}

pub record IsFit (terms : List Term) (needy own : ℕ → Bool) : Type 0 where
  pub wants : (i : ℕ) (t : Term) → slice_get terms i ≡ Some t → IsNeedy terms needy i t
  -- a part that wants its continuation as an atom has a function of its own
  pub owned : (j : ℕ) → needy j ≡ true → own j ≡ true
  -- the whole program ends in no call
  pub whole : needy 0 ≡ false
