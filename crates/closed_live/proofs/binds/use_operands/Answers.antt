use Rattle.std.proofs.Common.{refl}
use Rattle.place_laws.specs.Live.{used_by, all_used_by}
use Rattle.closed_live.proofs.Steps.{over_more}
use Rattle.closed_live.proofs.binds.use_operands.Goals as goal

pub loop-operand-preserved : goal.loop-operand-preserved
loop-operand-preserved c =
    over_more used_by all_used_by (λ x xs. refl) c.args.operands.now c.loop-operand.operand-index _ c.operand-item.result c.args.set.now.keys c.loop-operand.set.keys c.use_operand.new.set.keys c.loop-operand-test.true c.operand-item.is c.loop-operand.invariant c.in_ok-use_operand.ensures
