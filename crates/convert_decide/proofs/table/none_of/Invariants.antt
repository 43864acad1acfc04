use Rattle.std.proofs.Common.{◌≡◌, length}
use Rattle.convert_decide.proofs.table.none_of.Given as goal

abbrev pub invariant-loop : goal.invariant-loop
invariant-loop l = length l.found ≡ l.counter
