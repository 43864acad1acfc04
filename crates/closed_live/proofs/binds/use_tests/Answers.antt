use Rattle.std.proofs.Common.{refl}
use Rattle.place_laws.specs.Live.{used_by_want, used_by_tests}
use Rattle.closed_live.proofs.Steps.{over_more}
use Rattle.closed_live.proofs.binds.use_tests.Goals as goal

pub loop-test-preserved : goal.loop-test-preserved
loop-test-preserved c =
    over_more (λ t. used_by_want t.want) used_by_tests (λ x xs. refl) c.args.tests.now c.loop-test.test-index _ c.test-item.result c.args.set.now.keys c.loop-test.set.keys c.use_wanted.new.set.keys c.loop-test-test.true c.test-item.is c.loop-test.invariant c.in_ok-use_wanted.ensures
