-- What holds of the rule of 16 words, and of the program that conversion makes by any decision that fits.
use Rattle.std.specs.Prelude.{◌≡◌, ℕ, ◌<◌, Bool, false}
use Rattle.std.specs.List.{AllByRecursion}
use Rattle.sml_tree.specs.IsBare.{IsDistinct}
use Rattle.lambda_ir.specs.Program.{Lambda}
use Rattle.lambda_ir.specs.Kept.{IsProgram}
use Rattle.cps_ir.specs.Free.{bound}
use Rattle.convert_laws.specs.Convert.{size_at}
use Rattle.convert_laws.specs.Decide.{own_by_16}
use Rattle.convert_laws.specs.Fit.{IsFit}
use Rattle.convert_laws.specs.Needs.{needs}
use Rattle.convert_laws.specs.Program.{tree_with}

-- of a program that ends in no call
abbrev pub RuleOf16Fits : Type 0
RuleOf16Fits =
    (l : Lambda) → IsProgram l → needs l.terms 0 ≡ false → IsFit l.terms (needs l.terms) (own_by_16 l.terms l.sites)

-- each variable is bound once, and is below the size of the whole
pub record BindsOnce (own : ℕ → Bool) (l : Lambda) : Type 0 where
  pub once : IsDistinct (bound (tree_with own l).code)
  pub below : AllByRecursion (λ x. x < size_at l.terms 0) (bound (tree_with own l).code)

abbrev pub ConversionBindsOnce : Type 0
ConversionBindsOnce =
    (l : Lambda) → IsProgram l → (needy own : ℕ → Bool) → IsFit l.terms needy own → BindsOnce own l
