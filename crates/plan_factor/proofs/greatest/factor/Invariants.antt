use Rattle.std.proofs.Common.{◌≡◌, ◌≤◌, length, drop}
use Rattle.plan_factor.specs.Groups.{grouped, best_in}
use Rattle.plan_factor.proofs.greatest.factor.Given as goal

abbrev pub invariant-loop-i : goal.invariant-loop-i
invariant-loop-i l = record {
  within : l.i ≤ length l.order;
  best : l.best ≡ best_in l.left l.sites l.classes l.layouts (grouped l.groups) l.all (drop l.i l.order);
}

abbrev pub decreases-loop-i : goal.decreases-loop-i
decreases-loop-i l = l.i
