-- What the program keeps that conversion makes, whichever frames have functions of their own.
use Rattle.std.specs.Prelude.{◌≡◌, ℕ, Bool, []}
use Rattle.lambda_ir.specs.Program.{Lambda}
use Rattle.lambda_ir.specs.Kept.{IsProgram}
use Rattle.cps_ir.specs.Free.{free_code}
use Rattle.cps_ir.specs.Program.{Cps}
use Rattle.convert_laws.specs.Program.{tree_with}
use Rattle.convert_kept.specs.Ranges.{CodeKept}

abbrev pub ConversionIsClosed : Type 0
ConversionIsClosed = (l : Lambda) → IsProgram l → (own : ℕ → Bool) → free_code (tree_with own l).code ≡ []

-- in a program with the same texts and names
abbrev pub ConversionKeepsRanges : Type 0
ConversionKeepsRanges =
    (l : Lambda) → IsProgram l → (own : ℕ → Bool) → (q : Cps) → q.texts ≡ l.texts → q.exns ≡ l.exns → CodeKept q (tree_with own l).code
