use Rattle.std.proofs.Common.{◌≡◌, drop, map}
use Rattle.sml_prelude.specs.Long.{long_row}
use Rattle.sml_expansion.specs.Scopes.{renamed}
use Rattle.sml_expansion.proofs.long_identifiers.bind_rows.Given as goal

abbrev pub invariant-loop-row : goal.invariant-loop-row
invariant-loop-row l = renamed l.names (map long_row (drop l.row-index l.rows)) l.values ≡ renamed l.names (map long_row l.rows) l.fn.values
