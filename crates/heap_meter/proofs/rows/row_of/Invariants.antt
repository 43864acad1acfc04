use Rattle.std.proofs.Common.{◌≡◌, ◌-◌, drop, length}
use Rattle.rv_run.specs.Run.{row_at}
use Rattle.heap_meter.proofs.rows.row_of.Given as goal

abbrev pub invariant-loop-at : goal.invariant-loop-at
invariant-loop-at l = row_at (drop l.at l.rows) l.pc ≡ row_at l.rows l.pc

abbrev pub decreases-loop-at : goal.decreases-loop-at
decreases-loop-at l = length l.rows - l.at
