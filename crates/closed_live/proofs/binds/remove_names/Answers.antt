use Rattle.closed_live.proofs.Steps.{gone_more}
use Rattle.closed_live.proofs.binds.remove_names.Goals as goal

pub loop-maker-preserved : goal.loop-maker-preserved
loop-maker-preserved c =
    gone_more c.args.makers.now c.loop-maker.maker-index _ c.maker-item.result c.args.set.now.keys c.loop-maker.set.keys c.remove.new.set.keys c.loop-maker-test.true c.maker-item.is c.loop-maker.invariant c.remove.ensures
