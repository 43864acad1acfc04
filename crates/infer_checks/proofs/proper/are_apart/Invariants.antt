use Rattle.std.proofs.Common.{◌≤◌, drop, length}
use Rattle.infer_state.specs.Typings.{AreApart}
use Rattle.infer_checks.proofs.proper.are_apart.Given as goal

abbrev pub invariant-numbers : goal.invariant-numbers
invariant-numbers l =
    record {
      within : l.at ≤ length l.numbers;
      apart : AreApart (drop l.at l.numbers);
    }

abbrev pub decreases-numbers : goal.decreases-numbers
decreases-numbers l = l.at
