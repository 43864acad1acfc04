use Rattle.std.proofs.Common.{◌≡◌, drop}
use Rattle.convert_laws.specs.Convert.{item_of}
use Rattle.convert_pieces.proofs.slots.item_of.Given as goal

abbrev pub invariant-loop-at : goal.invariant-loop-at
invariant-loop-at l = item_of l.parts l.atoms l.slot ≡ item_of (drop l.at l.parts) (drop l.at l.atoms) l.slot
