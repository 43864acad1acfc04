-- The bodies of a converted program.
use Rattle.std.specs.Prelude.{◌≡◌, ℕ, suc, ◌<◌, List, [], ◌∷◌, Some, length, flat_map, slice_get}
use Rattle.std.specs.List.{AllByRecursion}
use Rattle.sml_tree.specs.IsBare.{IsDistinct}
use Rattle.smlc_base.specs.declared.point.Site.{Site}
use Rattle.lambda_ir.specs.declared.term.Term.{Term}
use Rattle.cps_ir.specs.declared.atom.Atom.TheVariants as atom
use Rattle.cps_ir.specs.declared.atom.Constant.TheVariants as constant
use Rattle.cps_ir.specs.declared.body.Body.{Body}
use Rattle.cps_ir.specs.Kept.{body_parts, BodyKept}
use Rattle.cps_ir.specs.Program.{Cps, code_at}
use Rattle.convert_laws.specs.Convert.{convert, size_at}
use Rattle.convert_laws.specs.Decide.{own_by_16}
use Rattle.convert_kept.specs.Ranges.{CodeKept}
use Rattle.convert_steps.specs.declared.task.Awaits.TheVariants as awaits
use Rattle.convert_steps.specs.declared.task.Continuation.TheVariants as continuation
use Rattle.convert_steps.specs.declared.task.Frame.{Frame}
use Rattle.convert_steps.specs.declared.task.Task.{Task}
use Rattle.convert_steps.specs.declared.task.Work.TheVariants as work
use Rattle.convert_steps.specs.declared.world.World.{World}

-- ---- The beginning: term 0 under a frame that ends the program

abbrev pub last_frame : Frame
last_frame = record { awaits = awaits.End; scope = 0; continuation = continuation.Known (atom.Constant constant.Nothing) }

abbrev pub first_task : Task
first_task = record { work = work.Term 0; scope = 0; continuation = continuation.Text 0; next = 0 }

pub record IsBeginning (w : World) : Type 0 where
  pub frames : w.frames ≡ last_frame ∷ []
  pub tasks : w.tasks ≡ first_task ∷ []

-- ---- The end

-- each body but the first stands in exactly one other, of a smaller number, and the tree is that of the definition; bodies cite what the tree cites
pub record AreBodiesOf (terms : List Term) (sites : List Site) (bodies : List Body) : Type 0 where
  pub numbered : (i : ℕ) (b : Body) → slice_get bodies i ≡ Some b → AllByRecursion (λ c. (i < c) × (c < length bodies)) (body_parts b)
  pub apart : IsDistinct (flat_map body_parts bodies)
  pub one_tree : suc (length (flat_map body_parts bodies)) ≡ length bodies
  pub tree : code_at bodies 0 ≡ convert (own_by_16 terms sites) terms
  pub kept : (q : Cps) → CodeKept q (code_at bodies 0) → AllByRecursion (BodyKept q) bodies

-- the bodies of a program, and the number that its variables are below
pub record AreMade (terms : List Term) (sites : List Site) (bodies : List Body) (variables : ℕ) : Type 0 where
  pub bodies_are : AreBodiesOf terms sites bodies
  pub variables_are : variables ≡ size_at terms 0
