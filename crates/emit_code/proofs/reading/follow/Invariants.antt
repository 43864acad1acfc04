use Rattle.std.proofs.Common.{◌≡◌, ◌++◌, drop}
use Rattle.emit_items.specs.Reading.{followed}
use Rattle.emit_code.proofs.reading.follow.Given as goal

abbrev pub invariant-loop-step : goal.invariant-loop-step
invariant-loop-step l = l.items.items ++ followed l.rd (drop l.step-index l.steps) ≡ l.fn.items.items ++ followed l.rd l.steps
