use Rattle.std.proofs.Common.{◌≡◌, drop}
use Rattle.emit_items.specs.Ends.{first_free}
use Rattle.emit_code.proofs.calls.first_free.Given as goal

abbrev pub invariant-loop-place : goal.invariant-loop-place
invariant-loop-place l = record {
  same : first_free l.function l.sources l.saved l.moves (drop l.place-index l.moves) l.at ≡ first_free l.function l.sources l.saved l.moves l.moves 0;
  at : l.at ≡ l.place-index;
}
