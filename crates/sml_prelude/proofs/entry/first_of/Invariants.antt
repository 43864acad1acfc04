use Rattle.std.proofs.Common.{◌≡◌, drop, map}
use Rattle.sml_prelude.specs.Entries.{row, first_of}
use Rattle.sml_prelude.proofs.entry.first_of.Given as goal

abbrev pub invariant-loop-entry : goal.invariant-loop-entry
invariant-loop-entry g l = first_of (map row (drop l.entry-index l.entries)) l.text ≡ first_of (map row l.entries) l.text
