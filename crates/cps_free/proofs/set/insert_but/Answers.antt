use Rattle.cps_free.proofs.Steps.{kept_more}
use Rattle.cps_free.proofs.set.insert_but.Goals as goal

pub loop-x-preserved : goal.loop-x-preserved
loop-x-preserved c =
    kept_more c.args.xs.now c.args.gone.now c.loop-x.x-index _ c.args.set.now.keys c.loop-x.set.keys c.insert_unless.new.set.keys c.loop-x-test.true c.loop-x.invariant c.in_ok-insert_unless.ensures
