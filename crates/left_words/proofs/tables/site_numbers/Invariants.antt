use Rattle.std.proofs.Common.{◌≤◌, length, drop}
use Rattle.left_words.specs.Tables.{AreFirst}
use Rattle.left_words.proofs.tables.site_numbers.Given as goal

abbrev pub invariant-loop-i : goal.invariant-loop-i
invariant-loop-i l = record {
  within : l.i ≤ length l.sites;
  first : AreFirst l.sites (drop l.i l.sites) l.numbers;
}

abbrev pub decreases-loop-i : goal.decreases-loop-i
decreases-loop-i l = l.i
