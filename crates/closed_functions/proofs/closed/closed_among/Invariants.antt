use Rattle.std.proofs.Common.{◌≡◌, ℕ, ◌+◌, false, List, length}
use Rattle.std.specs.Prelude.{if◌then◌else◌}
use Rattle.cps_ir.specs.Slim.{AreClosed}
use Rattle.close_laws.specs.Layouts.{names_of_layouts}
use Rattle.closed_functions.specs.Round.{AreAmong, AreMet}
use Rattle.closed_functions.proofs.closed.closed_among.Given as goal

abbrev pub invariant-loop-fell : goal.invariant-loop-fell
invariant-loop-fell l = record {
  names : AreAmong l.closed.keys (names_of_layouts l.all);
  keeps : (more : List ℕ) → AreClosed l.all more → AreAmong more l.closed.keys;
  met : l.fell ≡ false → AreMet l.all l.closed.keys;
}

abbrev pub decreases-loop-fell : goal.decreases-loop-fell
decreases-loop-fell l = length l.closed.keys + (if l.fell then 1 else 0)
