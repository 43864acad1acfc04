use Rattle.std.proofs.Common.{◌≡◌, map, take}
use Rattle.place_laws.specs.Place.{at_params, nowhere}
use Rattle.reg_spill.proofs.roots.param_places.Given as goal

abbrev pub invariant-loop-variable : goal.invariant-loop-variable
invariant-loop-variable l = l.places.items ≡ map (at_params l.params 0 nowhere) (take l.variable-index l.variables)
