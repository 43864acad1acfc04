use Rattle.std.proofs.Common.{◌≡◌, ◌-◌, ◌+◌, ℕ, length}
use Rattle.sml_fixity.specs.Statuses.{status_at, tally}
use Rattle.sml_fixity.proofs.status_table.StatusTable.reach.Given as goal

abbrev pub invariant-loop-self : goal.invariant-loop-self
invariant-loop-self l = record { weight : l.self-inside.operators ≡ tally l.self-inside.statuses.items; same : (i : ℕ) → status_at l.self-inside.statuses.items i ≡ status_at l.fn.self i }

abbrev pub decreases-loop-self : goal.decreases-loop-self
decreases-loop-self l = l.number + 1 - length l.self-inside.statuses.items
