use Rattle.std.proofs.Common.{◌≤◌, length, drop}
use Rattle.cps_free.specs.Same.{AreSame}
use Rattle.close_laws.specs.Layouts.{names_of_layouts}
use Rattle.closed_functions.proofs.rounds.all_names.Given as goal

abbrev pub invariant-loop-i : goal.invariant-loop-i
invariant-loop-i l = record {
  within : l.i ≤ length l.layouts;
  named : AreSame l.set.keys (names_of_layouts (drop l.i l.layouts));
}

abbrev pub decreases-loop-i : goal.decreases-loop-i
decreases-loop-i l = l.i
