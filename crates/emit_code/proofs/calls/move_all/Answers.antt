use Rattle.std.proofs.Common.{◌<◌, arith}
use Rattle.emit_code.proofs.Moves.{moved_more}
use Rattle.emit_code.proofs.calls.move_all.Goals as goal

pub loop-left-preserved : goal.loop-left-preserved
loop-left-preserved c =
    let some : 0 < c.loop-left.left = omega (arith, c.loop-left-test.true) in
    moved_more c.args.function.now c.args.sources.now c.args.labels.now c.loop-left.left c.loop-left.saved c.in_ok-saved.saved c.loop-left.moves.items c.move_next.new.moves.items _ _ _ some c.in_ok-saved.ensures.saved c.in_ok-saved.ensures.moves c.in_ok-saved.ensures.items c.loop-left.invariant
