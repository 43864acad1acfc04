use Rattle.std.proofs.Common.{◌≡◌, ◌++◌, take}
use Rattle.infer_tables.proofs.group.with_rows.Given as goal

abbrev pub invariant-rows : goal.invariant-rows
invariant-rows l =
    record {
      names : l.known.tables.names ≡ take l.first l.fn.known.tables.names ++ l.yielded;
      abbreviations : l.known.abbreviations ≡ l.fn.known.abbreviations;
      stands : l.known.stands ≡ l.fn.known.stands;
    }
