use Rattle.std.proofs.Common.{◌≡◌, ◌++◌}
use Rattle.placed_ir.specs.Program.{code_at}
use Rattle.emit_items.specs.Body.{items}
use Rattle.emit_bodies.specs.Layout.{laid}
use Rattle.emit_bodies.specs.Weights.{tasks_weight}
use Rattle.emit_bodies.proofs.body.put_body.Given as goal

abbrev pub decreases-loop-task : goal.decreases-loop-task
decreases-loop-task l = tasks_weight l.bodies l.tasks.items

abbrev pub invariant-loop-task : goal.invariant-loop-task
invariant-loop-task l = laid l.labels l.bodies l.tasks.items l.text ≡ items l.labels 0 (code_at l.bodies l.fn.number) ++ l.fn.text
