use Rattle.std.proofs.Common.{◌≤◌, length, drop}
use Rattle.live_classes.specs.Keys.{AreHomes}
use Rattle.live_classes.proofs.homes.homes.Given as goal

abbrev pub invariant-loop-i : goal.invariant-loop-i
invariant-loop-i l = record {
  within : l.i ≤ length l.bindings;
  are : AreHomes (drop l.i l.bindings) l.n l.homes.items;
}

abbrev pub decreases-loop-i : goal.decreases-loop-i
decreases-loop-i l = l.i
