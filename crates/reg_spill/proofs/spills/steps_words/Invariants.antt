use Rattle.std.proofs.Common.{◌≡◌, ◌≤◌, length, drop}
use Rattle.reg_spill.specs.Spills.{steps_spills}
use Rattle.reg_spill.proofs.spills.steps_words.Given as goal

abbrev pub invariant-loop-i : goal.invariant-loop-i
invariant-loop-i l = record {
  within : l.i ≤ length l.steps;
  most : l.most ≡ steps_spills (drop l.i l.steps) l.last;
}

abbrev pub decreases-loop-i : goal.decreases-loop-i
decreases-loop-i l = l.i
