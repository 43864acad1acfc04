use Rattle.std.proofs.Common.{◌≡◌, ◌+◌, ◌++◌, ℕ, filter_map}
use Rattle.sml_def.specs.Step.{count_up}
use Rattle.convert_laws.specs.Convert.{item_of, in_slots}
use Rattle.convert_pieces.proofs.slots.in_slots.Given as goal

abbrev pub invariant-loop-slot : goal.invariant-loop-slot
invariant-loop-slot l =
    (k : ℕ) → l.slot + k ≡ l.count → l.found ++ filter_map (item_of l.parts l.atoms) (count_up l.slot k) ≡ in_slots l.parts l.atoms
