use Rattle.std.proofs.Common.{◌≡◌, ◌≤◌, length, drop}
use Rattle.plan_factor.specs.Groups.{words_in}
use Rattle.plan_factor.proofs.sites.group_words.Given as goal

abbrev pub invariant-loop-i : goal.invariant-loop-i
invariant-loop-i l = record {
  within : l.i ≤ length l.group;
  sum : l.total ≡ words_in l.layouts (drop l.i l.group);
}

abbrev pub decreases-loop-i : goal.decreases-loop-i
decreases-loop-i l = l.i
