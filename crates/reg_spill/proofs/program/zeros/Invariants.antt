use Rattle.std.proofs.Common.{◌≡◌, length}
use Rattle.reg_spill.proofs.program.zeros.Given as goal

abbrev pub invariant-loop : goal.invariant-loop
invariant-loop l = length l.table.items ≡ l.counter
