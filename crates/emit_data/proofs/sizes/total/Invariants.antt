use Rattle.std.proofs.Common.{◌≡◌, ◌+◌, drop}
use Rattle.emit_text.specs.Text.{total}
use Rattle.emit_data.proofs.sizes.total.Given as goal

abbrev pub invariant-loop-size : goal.invariant-loop-size
invariant-loop-size l = l.all + total (drop l.size-index l.sizes) ≡ total l.sizes
