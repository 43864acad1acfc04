use Rattle.std.proofs.Common.{◌≡◌, drop}
use Rattle.emit_code.specs.Steps.{last_group}
use Rattle.emit_bodies.proofs.stack.last_group.Given as goal

abbrev pub invariant-loop-step : goal.invariant-loop-step
invariant-loop-step l = last_group l.group (drop l.step-index l.steps) ≡ last_group l.before l.steps
