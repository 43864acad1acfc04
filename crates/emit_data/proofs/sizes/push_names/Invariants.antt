use Rattle.std.proofs.Common.{◌≡◌, ◌++◌, map, take}
use Rattle.emit_data.specs.Blocks.{name_words}
use Rattle.emit_data.proofs.sizes.push_names.Given as goal

abbrev pub invariant-loop-exn : goal.invariant-loop-exn
invariant-loop-exn l = l.sizes.items ≡ l.fn.sizes.items ++ map name_words (take l.exn-index l.exns)
