use Rattle.std.proofs.Common.{◌≡◌, ◌++◌, map, take}
use Rattle.close_steps.specs.Visible.{visible, places_in}
use Rattle.close_groups.proofs.makers.push_places.Given as goal

abbrev pub invariant-loop-variable : goal.invariant-loop-variable
invariant-loop-variable l = l.fields ≡ l.fn.fields ++ map (places_in l.decisions (visible l.scopes l.environment)) (take l.variable-index l.variables)
