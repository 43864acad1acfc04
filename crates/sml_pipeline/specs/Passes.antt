-- What the passes behind the front end make of a typed tree.
use Rattle.std.specs.Prelude.{◌≡◌, ℕ, ◌<◌, List}
use Rattle.std.specs.List.{AllByRecursion}
use Rattle.sml_tree.specs.declared.bare.Bare.{Bare}
use Rattle.sml_types.specs.declared.tables.TypeName.{TypeName}
use Rattle.cps_ir.specs.Code.{Tree}
use Rattle.cps_ir.specs.Free.{bound}
use Rattle.close_laws.specs.declared.plan.Plan.{Plan}
use Rattle.close_laws.specs.Close.{close}
use Rattle.close_laws.specs.Plan.{plan}
use Rattle.close_laws.specs.Text.{plan_text}
use Rattle.placed_ir.specs.Program.{Placed, tree_of}
use Rattle.place_laws.specs.Place.{place_program}
use Rattle.elf_static.specs.declared.image.Image.{Image}
use Rattle.rv_codegen.specs.Image.{image_of}
use Rattle.sml_middle.specs.Middle.{middle_of}

-- all variables of the program are below the number
abbrev pub IsAbove : Tree → ℕ → Type 0
IsAbove q n = AllByRecursion (λ x. x < n) (bound q.code)

-- What the tree with these type names becomes: a program with places, and the plan of its closures with the words that it spills.
-- Records are numbered from some number above all variables on.
pub record IsPlaced (names : List TypeName) (p : Bare) (placed : Placed) (measured : Plan) : Type 0 where
  pub fresh : ℕ
  pub above : IsAbove (middle_of names p) fresh
  pub tree : tree_of placed ≡ place_program (close fresh (middle_of names p))
  pub plan : measured ≡ record (plan fresh (middle_of names p)) { spill = placed.spill }

-- the text of its plan
pub record IsPlanText (names : List TypeName) (p : Bare) (text : List ℕ) : Type 0 where
  pub placed : Placed
  pub plan : Plan
  pub becomes : IsPlaced names p placed plan
  pub is : text ≡ plan_text plan

-- its image, with an arena of so many words
pub record IsImageOf (names : List TypeName) (p : Bare) (arena : ℕ) (image : Image) : Type 0 where
  pub placed : Placed
  pub plan : Plan
  pub becomes : IsPlaced names p placed plan
  pub is : image ≡ image_of placed arena plan
