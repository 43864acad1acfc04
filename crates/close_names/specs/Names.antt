-- The functions of a program by number, by their names and by their points.
use Rattle.std.specs.Prelude.{◌≡◌, ℕ, List, Some, slice_get}
use Rattle.std.specs.List.{AllByRecursion}
use Rattle.simulation.specs.Blocks.{IsAmong}
use Rattle.cps_ir.specs.declared.body.Function.{Function as Entry}
use Rattle.cps_ir.specs.declared.body.Bind.TheVariants as bind
use Rattle.cps_ir.specs.declared.body.Body.{Body}
use Rattle.cps_ir.specs.Program.{Cps, code_at}
use Rattle.cps_ir.specs.Kept.{IsProgram}
use Rattle.cps_ir.specs.Slim.{layouts}
use Rattle.closure_layouts.specs.Found.{PointedOnce}
use Rattle.close_laws.specs.Layouts.{facts, name_at}
use Rattle.close_laws.specs.Close.{design_of}
use Rattle.close_rows.specs.Rows.{AreBound}

-- the design of a program knows each function of each body by its name
abbrev pub ProgramsAreBound : Type 0
ProgramsAreBound = (q : Cps) → IsProgram q → AreBound (design_of (facts q.variables (code_at q.bodies 0))) q.bodies

-- where functions have different points, the name at each one's point is its own
abbrev pub FunctionsAreAt : Type 0
FunctionsAreAt =
    (q : Cps) → IsProgram q → PointedOnce (layouts (code_at q.bodies 0))
    → (i : ℕ) (b : Body) → slice_get q.bodies i ≡ Some b → (fs : List Entry) → IsAmong (bind.Fix fs) b.binds
    → AllByRecursion (λ f. name_at (facts q.variables (code_at q.bodies 0)) f.point ≡ f.name) fs
