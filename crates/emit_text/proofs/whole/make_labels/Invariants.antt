use Rattle.std.proofs.Common.{◌≡◌}
use Rattle.rt_prims.specs.Text.{with_labels}
use Rattle.emit_text.proofs.whole.make_labels.Given as goal

abbrev pub invariant-loop : goal.invariant-loop
invariant-loop l = l.asm ≡ with_labels l.counter l.fn.asm
