use Rattle.emit_code.proofs.Moves.{moves_more}
use Rattle.emit_code.proofs.calls.moves_from.Goals as goal

pub loop-k-preserved : goal.loop-k-preserved
loop-k-preserved c = moves_more c.args.count c.loop-k.k _ _ _ _ c.loop-k-test.true c.in_ok-sum.ensures c.in_ok-push.ensures.items c.loop-k.invariant
