use Rattle.std.specs.Prelude.{◌≡◌, drop}
use Rattle.contract_census.specs.Counting.{use_tests}
use Rattle.contract_census.proofs.steps.use_tests.Given as goal

abbrev pub invariant-loop-test : goal.invariant-loop-test
invariant-loop-test l = use_tests (drop l.test-index l.tests) l.counts.items ≡ use_tests l.tests l.fn.counts.items
