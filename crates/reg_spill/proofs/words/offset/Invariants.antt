use Rattle.std.proofs.Common.{◌≡◌, ◌+◌, map, drop}
use Rattle.placed_ir.specs.Arena.{offset_in}
use Rattle.place_laws.specs.Place.{maker_length}
use Rattle.reg_spill.proofs.words.offset.Given as goal

abbrev pub invariant-loop-maker : goal.invariant-loop-maker
invariant-loop-maker l = l.total + offset_in (map maker_length (drop l.maker-index l.makers)) l.left ≡ offset_in (map maker_length l.makers) l.k
