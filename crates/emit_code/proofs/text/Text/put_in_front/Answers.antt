use Rattle.std.proofs.Common.{◌<◌, arith}
use Rattle.emit_code.proofs.Loops.{one_before}
use Rattle.emit_code.proofs.text.Text.put_in_front.Goals as goal

pub loop-left-preserved : goal.loop-left-preserved
loop-left-preserved c =
    let some : 0 < c.loop-left.left = omega (arith, c.loop-left-test.true) in
    record {
      few = omega (arith, c.loop-left.invariant.few);
      text = one_before c.args.piece.now c.loop-left.left _ _ _ _ some c.loop-left.invariant.few c.in_ok-put_item.ensures c.loop-left.invariant.text;
    }
