use Rattle.std.specs.Prelude.{take}
use Rattle.sml_tree.specs.Sets.{union}
use Rattle.cps_ir.specs.Free.{vars_tests}
use Rattle.cps_free.specs.Same.{AreSame}
use Rattle.used_values.proofs.own.use_tests.Given as goal

abbrev pub invariant-loop-test : goal.invariant-loop-test
invariant-loop-test l = AreSame l.set.keys (union (vars_tests (take l.test-index l.tests)) l.fn.set.keys)
