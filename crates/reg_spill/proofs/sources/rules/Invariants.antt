use Rattle.std.proofs.Common.{◌≡◌, map, take}
use Rattle.place_bodies.specs.Steps.{at_of, rule_placed}
use Rattle.reg_spill.proofs.sources.rules.Given as goal

abbrev pub invariant-loop-one : goal.invariant-loop-one
invariant-loop-one l = l.all ≡ map (rule_placed (at_of l.table)) (take l.one-index l.rules)
