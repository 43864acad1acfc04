use Rattle.std.proofs.Common.{◌≡◌, map, take}
use Rattle.place_laws.specs.Place.{source_of}
use Rattle.place_bodies.specs.Steps.{at_of}
use Rattle.reg_spill.proofs.sources.sources.Given as goal

abbrev pub invariant-loop-operand : goal.invariant-loop-operand
invariant-loop-operand l = l.all ≡ map (source_of (at_of l.table) l.makers) (take l.operand-index l.operands)
