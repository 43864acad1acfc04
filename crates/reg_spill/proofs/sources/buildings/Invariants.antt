use Rattle.std.proofs.Common.{◌≡◌, map, take}
use Rattle.place_laws.specs.Place.{building_of}
use Rattle.place_bodies.specs.Steps.{at_of}
use Rattle.reg_spill.proofs.sources.buildings.Given as goal

abbrev pub invariant-loop-maker : goal.invariant-loop-maker
invariant-loop-maker l = l.all ≡ map (building_of (at_of l.table) l.makers) (take l.maker-index l.makers)
