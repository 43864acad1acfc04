use Rattle.std.proofs.Common.{◌≡◌, take}
use Rattle.rv_asm.specs.Layout.{addresses}
use Rattle.rv_asm.proofs.layout.addresses.Given as goal

abbrev pub invariant-loop-place : goal.invariant-loop-place
invariant-loop-place l = l.at.items ≡ addresses l.base (take l.place-index l.places)
