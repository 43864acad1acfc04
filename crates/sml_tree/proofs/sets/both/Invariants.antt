use Rattle.std.proofs.Common.{◌≡◌, ◌+◌, ◌-◌, ◌≤◌, ◌++◌, length, drop}
use Rattle.sml_tree.specs.Sets.{union}
use Rattle.sml_tree.proofs.sets.both.Given as goal

abbrev pub invariant-loop-i : goal.invariant-loop-i
invariant-loop-i l = record {
  left : l.i ≤ length l.xs;
  right : l.j ≤ length l.ys;
  done : l.set.items ++ union (drop l.i l.xs) (drop l.j l.ys) ≡ union l.xs l.ys;
}

abbrev pub decreases-loop-i : goal.decreases-loop-i
decreases-loop-i l = (length l.xs - l.i) + (length l.ys - l.j)
