use Rattle.used_values.specs.Own.{own_bind}
use Rattle.cps_free.proofs.Steps.{over_more}
use Rattle.used_values.proofs.own.use_binds.Goals as goal

pub loop-bind-preserved : goal.loop-bind-preserved
loop-bind-preserved c =
    over_more own_bind c.args.binds.now c.loop-bind.bind-index _ c.bind-item.result c.args.set.now.keys c.loop-bind.set.keys c.use_bind.new.set.keys c.loop-bind-test.true c.bind-item.is c.loop-bind.invariant c.in_ok-use_bind.ensures
