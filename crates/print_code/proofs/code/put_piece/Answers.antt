use Rattle.std.proofs.Common.{◌+◌, ◌*◌, ◌/◌, arith}
use Rattle.print_code.proofs.FitsCode.{fits_low, fits_lui}
use Rattle.print_code.proofs.Chain.{chain3}
use Rattle.print_code.proofs.code.put_piece.Goals as goal

pub put-requires : goal.put-requires
put-requires c = rw c.lui.ensures (fits_lui 12 ((c.args.size + 2048) / 4096 * 4096) (omega arith) (omega arith) (omega arith))

pub put-requires-2 : goal.put-requires-2
put-requires-2 c = rw c.low.ensures (fits_low c.args.size)

pub returns : goal.returns
returns c =
    let e1 = rw c.lui.ensures at c.in_ok-put.ensures in
    let e2 = rw c.low.ensures at c.in_ok-put-2.ensures in
    chain3 c.args.code.now.items c.put.new.code.items c.put-2.new.code.items c.put_loop.new.code.items _ _ _ e1 e2 c.in_ok-put_loop.ensures
