use Rattle.std.proofs.Common.{◌≡◌, ◌++◌, take}
use Rattle.std.specs.List.{flat_map}
use Rattle.emit_data.specs.Blocks.{string_block}
use Rattle.emit_data.proofs.blocks.put_strings.Given as goal

abbrev pub invariant-loop-text : goal.invariant-loop-text
invariant-loop-text l = l.bytes.items ≡ l.fn.bytes.items ++ flat_map string_block (take l.text-index l.texts)
