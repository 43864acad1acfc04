use Rattle.std.proofs.Common.{◌≡◌, ◌+◌, length}
use Rattle.infer_tables.specs.Starts.{AreAdded}
use Rattle.infer_tables.proofs.starts.add_variables.Given as goal

abbrev pub invariant-variables : goal.invariant-variables
invariant-variables l =
    record {
      count : length l.types ≡ l.start + l.at;
      added : AreAdded l.fn.types l.first l.at l.start l.types;
    }
