-- Conversion, and the functions of a group, one form of term at a time.
use Rattle.std.specs.Prelude.{◌≡◌, ◌≤◌, ℕ, Bool, List, Some, None, length, slice_get}
use Rattle.lambda_ir.specs.declared.term.Term.{Term}
use Rattle.lambda_ir.specs.Free.{function_at, function_of_term}
use Rattle.convert_laws.specs.Convert.{conv_term, conv_within, no_conv}
use Rattle.convert_laws.specs.Facts.{AreNumbered}

-- of a term that is there, and of one that isn't
pub record Unfolds (own : ℕ → Bool) (terms : List Term) : Type 0 where
  pub here : (i : ℕ) (t : Term) → slice_get terms i ≡ Some t → conv_within own terms (length terms) i ≡ conv_term own terms (conv_within own terms (length terms)) i t
  pub past : (i : ℕ) → length terms ≤ i → conv_within own terms (length terms) i ≡ no_conv own terms

abbrev pub ConversionUnfolds : Type 0
ConversionUnfolds = (own : ℕ → Bool) (terms : List Term) → AreNumbered terms → Unfolds own terms

-- the function that a term is
pub record Finds (terms : List Term) : Type 0 where
  pub here : (i : ℕ) (t : Term) → slice_get terms i ≡ Some t → function_at terms i ≡ function_of_term (function_at terms) i t
  pub past : (i : ℕ) → length terms ≤ i → function_at terms i ≡ None

abbrev pub FunctionsUnfold : Type 0
FunctionsUnfold = (terms : List Term) → AreNumbered terms → Finds terms
