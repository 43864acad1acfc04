use Rattle.std.specs.Prelude.{take, ◌++◌}
use Rattle.place_laws.specs.Live.{used_by_tests}
use Rattle.closed_live.specs.Same.{AreSame}
use Rattle.closed_live.proofs.binds.use_tests.Given as goal

abbrev pub invariant-loop-test : goal.invariant-loop-test
invariant-loop-test l = AreSame l.set.keys (used_by_tests (take l.test-index l.tests) ++ l.fn.set.keys)
