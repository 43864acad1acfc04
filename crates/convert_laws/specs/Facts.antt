-- What conversion asks of each term of a program.
use Rattle.std.specs.Prelude.{◌≡◌, ℕ, ◌<◌, List, Some, length, slice_get}
use Rattle.std.specs.List.{AllByRecursion}
use Rattle.lambda_ir.specs.declared.term.Term.{Term}
use Rattle.lambda_ir.specs.Kept.{term_parts}

-- each part of a term is a term with a greater number
abbrev pub AreNumbered : List Term → Type 0
AreNumbered terms =
    (i : ℕ) (t : Term) → slice_get terms i ≡ Some t → AllByRecursion (λ c. (i < c) × (c < length terms)) (term_parts t)
