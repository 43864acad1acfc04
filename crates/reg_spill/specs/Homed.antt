-- A step that is there if there is a home.
use Rattle.std.specs.Prelude.{List, [], ◌∷◌, Option, Some, None}
use Rattle.placed_ir.specs.declared.home.Home.{Home}
use Rattle.placed_ir.specs.declared.body.Step.{Step}

abbrev pub homed : (Home → Step) → Option Home → List Step
homed f None = []
homed f (Some h) = f h ∷ []
