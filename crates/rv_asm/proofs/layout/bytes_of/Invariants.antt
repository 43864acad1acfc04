use Rattle.std.proofs.Common.{◌≡◌, take}
use Rattle.rv_asm.specs.Item.{words}
use Rattle.rv_asm.specs.Layout.{code_from, bytes_of}
use Rattle.rv_asm.proofs.layout.bytes_of.Given as goal

abbrev pub invariant-loop-item : goal.invariant-loop-item
invariant-loop-item l = record {
  counted : l.here ≡ words (take l.item-index l.items);
  written : l.bytes.items ≡ bytes_of (code_from l.places 0 (take l.item-index l.items));
}
