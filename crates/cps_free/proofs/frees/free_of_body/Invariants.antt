use Rattle.std.proofs.Common.{◌≤◌, length, drop}
use Rattle.sml_tree.specs.Sets.{row_at}
use Rattle.cps_free.specs.Same.{AreSame}
use Rattle.cps_free.specs.Rows.{binds_free, end_free}
use Rattle.cps_free.proofs.frees.free_of_body.Given as goal

abbrev pub invariant-loop-i : goal.invariant-loop-i
invariant-loop-i l = record {
  within : l.i ≤ length l.binds;
  same : AreSame l.set.keys (binds_free (row_at l.frees) (drop l.i l.binds) (end_free (row_at l.frees) l.body.end));
}

abbrev pub decreases-loop-i : goal.decreases-loop-i
decreases-loop-i l = l.i
