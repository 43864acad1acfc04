use Rattle.std.proofs.Common.{◌≡◌, map, take}
use Rattle.close_laws.specs.Lower.{test_of}
use Rattle.close_steps.specs.Visible.{visible, places_in}
use Rattle.close_steps.proofs.atoms.tests.Given as goal

abbrev pub invariant-loop-one : goal.invariant-loop-one
invariant-loop-one l = l.all ≡ map (test_of (places_in l.decisions (visible l.scopes l.environment))) (take l.one-index l.tests)
