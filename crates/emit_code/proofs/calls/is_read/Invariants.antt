use Rattle.std.proofs.Common.{◌≡◌, drop}
use Rattle.emit_items.specs.Ends.{is_read}
use Rattle.emit_code.proofs.calls.is_read.Given as goal

abbrev pub invariant-loop-place : goal.invariant-loop-place
invariant-loop-place l = is_read l.function l.sources l.saved l.k (drop l.place-index l.moves) ≡ is_read l.function l.sources l.saved l.k l.moves
