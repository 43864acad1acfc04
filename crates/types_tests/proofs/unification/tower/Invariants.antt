use Rattle.std.proofs.Common.{◌<◌, ◌≤◌, length}
use Rattle.types_tests.proofs.unification.tower.Given as goal

abbrev pub invariant-levels : goal.invariant-levels
invariant-levels l = record {
  there : l.top.0 < length l.types;
  longer : length l.fn.types ≤ length l.types;
}
