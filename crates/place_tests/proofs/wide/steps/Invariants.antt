use Rattle.std.proofs.Common.{◌≡◌}
use Rattle.place_tests.specs.Wide.{literals, reads}
use Rattle.place_tests.proofs.wide.steps.Given as goal

abbrev pub invariant-loop-i : goal.invariant-loop-i
invariant-loop-i l = record {
  binds : l.binds ≡ literals l.i;
  fields : l.fields ≡ reads l.i;
}
