use Rattle.std.proofs.Common.{◌≡◌, ◌++◌, take, length}
use Rattle.infer_tables.specs.Group.{headers, AreNext}
use Rattle.infer_tables.proofs.group.with_headers.Given as goal

abbrev pub invariant-bindings : goal.invariant-bindings
invariant-bindings l =
    record {
      names : l.known.tables.names ≡ l.fn.known.tables.names ++ headers l.fn.bare.tyvars (take l.binding-index l.bindings);
      abbreviations : l.known.abbreviations ≡ l.fn.known.abbreviations;
      stands : l.known.stands ≡ l.fn.known.stands;
      next : AreNext (length l.fn.known.tables.names) (take l.binding-index l.bindings);
    }
