use Rattle.std.proofs.Common.{◌≡◌, ◌++◌, length, drop}
use Rattle.place_bodies.specs.Steps.{body_steps, end_table}
use Rattle.reg_spill.proofs.body.place_binds.Given as goal

abbrev pub invariant-loop-i : goal.invariant-loop-i
invariant-loop-i l = record {
  steps : l.steps.items ++ body_steps l.table.items (drop l.i l.binds) (drop l.i l.along) ≡ l.fn.steps.items ++ body_steps l.fn.table.items l.binds l.along;
  table : end_table l.table.items (drop l.i l.binds) (drop l.i l.along) ≡ end_table l.fn.table.items l.binds l.along;
  fits : length l.table.items ≡ length l.fn.table.items;
}
