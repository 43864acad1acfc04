use Rattle.std.proofs.Common.{◌≡◌, ℕ, suc, ◌≤◌, ◌-◌, length}
use Rattle.place_bodies.specs.Steps.{at_of}
use Rattle.reg_spill.proofs.entries.put.Given as goal

abbrev pub invariant-loop-table : goal.invariant-loop-table
invariant-loop-table l = record {
  long : length l.fn.table.items ≤ length l.table.items;
  same : (y : ℕ) → at_of l.table.items y ≡ at_of l.fn.table.items y;
}

abbrev pub decreases-loop-table : goal.decreases-loop-table
decreases-loop-table l = suc l.variable - length l.table.items
