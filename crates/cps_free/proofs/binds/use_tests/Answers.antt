use Rattle.cps_ir.specs.Free.{vars_wanted}
use Rattle.cps_free.proofs.Steps.{over_more}
use Rattle.cps_free.proofs.binds.use_tests.Goals as goal

pub loop-test-preserved : goal.loop-test-preserved
loop-test-preserved c =
    over_more (λ t. vars_wanted t.want) c.args.tests.now c.loop-test.test-index _ c.test-item.result c.args.set.now.keys c.loop-test.set.keys c.use_wanted.new.set.keys c.loop-test-test.true c.test-item.is c.loop-test.invariant c.in_ok-use_wanted.ensures
