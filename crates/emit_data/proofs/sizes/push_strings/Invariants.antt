use Rattle.std.proofs.Common.{◌≡◌, ◌++◌, map, take}
use Rattle.emit_data.specs.Blocks.{string_words}
use Rattle.emit_data.proofs.sizes.push_strings.Given as goal

abbrev pub invariant-loop-text : goal.invariant-loop-text
invariant-loop-text l = l.sizes.items ≡ l.fn.sizes.items ++ map string_words (take l.text-index l.texts)
