use Rattle.std.proofs.Common.{arith}
use Rattle.print_code.proofs.FitsCode.{fits_lui}
use Rattle.print_code.proofs.Chain.{piece_more, total-drop}
use Rattle.print_code.proofs.code.code_of.Goals as goal

pub put-requires : goal.put-requires
put-requires c = rw c.lui.ensures (fits_lui 11 c.args.base (omega arith) (omega arith) (omega arith))

pub put_piece-requires : goal.put_piece-requires
put_piece-requires c = omega (arith, total-drop c.args.lengths.now c.loop-size.size-index c.loop-size-test.true, c.loop-size.invariant.sizes)

pub loop-size-preserved : goal.loop-size-preserved
loop-size-preserved c = record {
  bytes = piece_more c.loop-size.code.items c.put_piece.new.code.items _ c.args.lengths.now c.loop-size.size-index c.loop-size-test.true c.in_ok-put_piece.ensures c.loop-size.invariant.bytes;
  sizes = omega (arith, total-drop c.args.lengths.now c.loop-size.size-index c.loop-size-test.true, c.loop-size.invariant.sizes);
}
