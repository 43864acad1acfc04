use Rattle.std.proofs.Common.{◌≡◌, ◌≤◌, length, drop}
use Rattle.reg_spill.specs.Frames.{most_words}
use Rattle.reg_spill.proofs.frames.greatest.Given as goal

abbrev pub invariant-loop-i : goal.invariant-loop-i
invariant-loop-i l = record {
  within : l.i ≤ length l.functions;
  most : l.most ≡ most_words (drop l.i l.functions);
}

abbrev pub decreases-loop-i : goal.decreases-loop-i
decreases-loop-i l = l.i
