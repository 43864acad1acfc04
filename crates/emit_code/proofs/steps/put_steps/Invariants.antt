use Rattle.std.proofs.Common.{◌≡◌, ◌++◌, drop}
use Rattle.emit_code.specs.Steps.{last_group, steps_items}
use Rattle.emit_code.proofs.steps.put_steps.Given as goal

abbrev pub invariant-loop-step : goal.invariant-loop-step
invariant-loop-step l = record {
  group : last_group l.group (drop l.step-index l.steps) ≡ last_group l.before l.steps;
  items : l.items.items ++ steps_items l.labels l.group (drop l.step-index l.steps) ≡ l.fn.items.items ++ steps_items l.labels l.before l.steps;
}
