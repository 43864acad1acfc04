use Rattle.std.proofs.Common.{map, take}
use Rattle.place_laws.specs.Live.{without_all}
use Rattle.closed_live.specs.Same.{AreSame}
use Rattle.place_bodies.specs.Steps.{at_of}
use Rattle.reg_spill.proofs.homes.taken_beside.Given as goal

abbrev pub invariant-loop-variable : goal.invariant-loop-variable
invariant-loop-variable l = AreSame l.taken.keys (map (at_of l.table) (without_all l.gone (take l.variable-index l.alive)))
