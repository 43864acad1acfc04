use Rattle.std.proofs.Common.{◌≡◌, take}
use Rattle.rv_asm.specs.Item.{words}
use Rattle.emit_code.proofs.making.words.Given as goal

abbrev pub invariant-loop-item : goal.invariant-loop-item
invariant-loop-item l = l.total ≡ words (take l.item-index l.items)
