use Rattle.std.proofs.Common.{◌≡◌, ◌++◌, drop}
use Rattle.close_entries.specs.Entries.{through_records}
use Rattle.close_entries.proofs.entry.push_classes.Given as goal

abbrev pub invariant-loop-class : goal.invariant-loop-class
invariant-loop-class l = l.bounds.items ++ through_records l.decisions l.closure l.slot (drop l.class-index l.classes) ≡ l.fn.bounds.items ++ through_records l.decisions l.closure l.first l.classes
