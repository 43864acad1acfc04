use Rattle.std.proofs.Common.{◌≡◌, drop}
use Rattle.place_laws.specs.Place.{at_params, nowhere}
use Rattle.reg_spill.proofs.Params.{always}
use Rattle.reg_spill.proofs.roots.param_place.Given as goal

abbrev pub invariant-loop-param : goal.invariant-loop-param
invariant-loop-param l = at_params (drop l.param-index l.params) l.place (always l.found) l.variable ≡ at_params l.params 0 nowhere l.variable
