use Rattle.std.proofs.Common.{◌≤◌, length, drop}
use Rattle.sml_tree.specs.Sets.{row_at}
use Rattle.closed_live.specs.Same.{AreSame}
use Rattle.closed_live.specs.Rows.{binds_live, end_live, AreAlong}
use Rattle.closed_live.proofs.lives.live_along.Given as goal

abbrev pub invariant-loop-i : goal.invariant-loop-i
invariant-loop-i l = record {
  within : l.i ≤ length l.binds;
  same : AreSame l.set.keys (binds_live (drop l.i l.binds) (end_live (row_at l.lives) l.body.end));
  done : AreAlong (row_at l.lives) l.body l.i l.along.items;
}

abbrev pub decreases-loop-i : goal.decreases-loop-i
decreases-loop-i l = l.i
