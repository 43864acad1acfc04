-- Bodies that are written one after another.
use Rattle.std.specs.Prelude.{◌≡◌, ℕ, suc, Bool, List, [], ◌∷◌, Some, slice_get}
use Rattle.lambda_ir.specs.declared.term.Term.{Term}
use Rattle.cps_ir.specs.declared.body.Body.{Body}
use Rattle.convert_steps.specs.declared.task.Task.{Task}
use Rattle.convert_steps.specs.declared.task.Step.TheVariants as step
use Rattle.convert_steps.specs.declared.world.World.{World}
use Rattle.convert_steps.specs.Codes.{work_code}
use Rattle.convert_steps.specs.Writes.{Writes}

-- the bodies of the tasks from a number on, each written in the world that the one before it left
pub data AreWritten (own : ℕ → Bool) (terms : List Term) : World → ℕ → List Body → World → Type 0 where
  none : (w : World) (at : ℕ) → AreWritten own terms w at [] w
  more : (w v u : World) (at : ℕ) (t : Task) (b : Body) (bodies : List Body) → slice_get w.tasks at ≡ Some t → Writes own terms w [] v b.binds (λ σ κ. work_code own terms t.work σ κ t.next) t.scope t.continuation (step.Stop b.end) → AreWritten own terms v (suc at) bodies u → AreWritten own terms w at (b ∷ bodies) u
