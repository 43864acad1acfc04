use Rattle.std.proofs.Common.{◌≡◌, [], map, take}
use Rattle.std.specs.Prelude.{fold}
use Rattle.type_text.specs.Entries.{entry_of}
use Rattle.type_text.specs.States.{state, with_line}
use Rattle.type_text.proofs.text.lines.Given as goal

abbrev pub invariant-shown : goal.invariant-shown
invariant-shown l = l.written ≡ fold (with_line l.typed.tables.names) (state [] [] [] []) (map (entry_of l.typed) (take l.name-index l.shown))
