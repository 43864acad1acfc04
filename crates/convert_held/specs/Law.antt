-- Which frames have a label in what conversion makes.
use Rattle.std.specs.Prelude.{◌≡◌, ℕ, Bool, false}
use Rattle.smlc_base.specs.declared.point.PointKind.TheVariants as kind
use Rattle.smlc_base.specs.Points.{is_label}
use Rattle.sml_tree.specs.Points.{point}
use Rattle.lambda_ir.specs.Program.{Lambda}
use Rattle.lambda_ir.specs.Kept.{IsProgram}
use Rattle.cps_ir.specs.Free.{labels}
use Rattle.convert_laws.specs.Program.{tree_with}

-- a frame without a function of its own has no label
abbrev pub LabelsAreOwned : Type 0
LabelsAreOwned =
    (l : Lambda) → IsProgram l → (own : ℕ → Bool) → (j : ℕ) → own j ≡ false → is_label (labels (tree_with own l).code) (point j kind.Ret) ≡ false
