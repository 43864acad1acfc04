use Rattle.std.proofs.Common.{◌≤◌, length, drop}
use Rattle.left_words.specs.Tables.{AreRanked}
use Rattle.left_words.proofs.tables.left_ranks.Given as goal

abbrev pub invariant-loop-i : goal.invariant-loop-i
invariant-loop-i l = record {
  within : l.i ≤ length l.left;
  ranked : AreRanked (drop l.i l.left) l.ranks.keys;
}

abbrev pub decreases-loop-i : goal.decreases-loop-i
decreases-loop-i l = l.i
