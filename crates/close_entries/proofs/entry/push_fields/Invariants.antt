use Rattle.std.proofs.Common.{◌≡◌, ◌++◌, drop}
use Rattle.close_entries.specs.Entries.{fields_from}
use Rattle.close_entries.proofs.entry.push_fields.Given as goal

abbrev pub invariant-loop-key : goal.invariant-loop-key
invariant-loop-key l = l.bounds.items ++ fields_from l.closure l.field (drop l.key-index l.keys) ≡ l.fn.bounds.items ++ fields_from l.closure l.first l.keys
