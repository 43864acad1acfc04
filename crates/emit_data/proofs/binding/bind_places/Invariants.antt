use Rattle.std.proofs.Common.{◌≡◌, ◌+◌, take}
use Rattle.emit_data.specs.Program.{with_places}
use Rattle.emit_data.proofs.binding.bind_places.Given as goal

abbrev pub invariant-loop-place : goal.invariant-loop-place
invariant-loop-place l = record {
  numbered : l.label ≡ l.first + l.place-index;
  bound : l.asm ≡ with_places l.fn.asm l.first (take l.place-index l.places);
}
