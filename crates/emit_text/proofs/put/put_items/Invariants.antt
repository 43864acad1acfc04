use Rattle.std.proofs.Common.{◌≡◌, take}
use Rattle.emit_text.specs.Bound.{with_items}
use Rattle.emit_text.proofs.put.put_items.Given as goal

abbrev pub invariant-loop-item : goal.invariant-loop-item
invariant-loop-item l = l.asm ≡ with_items l.fn.asm (take l.item-index l.items)
