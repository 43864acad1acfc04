use Rattle.std.proofs.Common.{◌≡◌, ◌≤◌, length, drop}
use Rattle.label_plans.specs.Rows.{records_of}
use Rattle.label_plans.proofs.measures.record_words.Given as goal

abbrev pub invariant-loop-i : goal.invariant-loop-i
invariant-loop-i l = record {
  within : l.i ≤ length l.numbers;
  sum : l.total ≡ records_of l.classes (drop l.i l.numbers);
}

abbrev pub decreases-loop-i : goal.decreases-loop-i
decreases-loop-i l = l.i
