use Rattle.std.proofs.Common.{◌≡◌, map, take}
use Rattle.place_bodies.specs.Steps.{at_of}
use Rattle.reg_spill.proofs.entries.places_of.Given as goal

abbrev pub invariant-loop-variable : goal.invariant-loop-variable
invariant-loop-variable l = l.places.items ≡ map (at_of l.table) (take l.variable-index l.variables)
