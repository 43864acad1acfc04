use Rattle.std.proofs.Common.{◌≡◌, map, take}
use Rattle.place_laws.specs.Place.{test_of}
use Rattle.place_bodies.specs.Steps.{at_of}
use Rattle.reg_spill.proofs.sources.tests.Given as goal

abbrev pub invariant-loop-one : goal.invariant-loop-one
invariant-loop-one l = l.all ≡ map (test_of (at_of l.table)) (take l.one-index l.tests)
