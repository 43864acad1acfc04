use Rattle.std.proofs.Common.{◌≡◌, ◌≤◌, length, drop}
use Rattle.place_bodies.specs.Steps.{at_of}
use Rattle.reg_spill.specs.Spills.{rules_spills}
use Rattle.reg_spill.proofs.spills.rules_words.Given as goal

abbrev pub invariant-loop-i : goal.invariant-loop-i
invariant-loop-i l = record {
  within : l.i ≤ length l.rules;
  most : l.most ≡ rules_spills (at_of l.table) (drop l.i l.rules) l.last;
}

abbrev pub decreases-loop-i : goal.decreases-loop-i
decreases-loop-i l = l.i
