use Rattle.std.proofs.Common.{get_or}
use Rattle.emit_data.proofs.Loops.{closures_more}
use Rattle.emit_data.proofs.blocks.put_closures.Goals as goal

pub loop-label-preserved : goal.loop-label-preserved
loop-label-preserved c = closures_more (λ k. get_or c.args.at.now k 0) c.args.count c.loop-label.label c.loop-label.bytes.items c.put_code.new.bytes.items _ c.loop-label-test.true c.in_ok-put_code.ensures c.loop-label.invariant
