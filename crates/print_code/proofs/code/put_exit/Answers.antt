use Rattle.std.proofs.Common.{arith}
use Rattle.print_code.proofs.FitsCode.{fits_addi}
use Rattle.print_code.proofs.Chain.{chain3}
use Rattle.print_code.proofs.code.put_exit.Goals as goal

pub put-requires : goal.put-requires
put-requires c = rw c.ins.ensures (fits_addi 17 0 _ (omega arith) (omega arith) (omega arith))

pub put-requires-2 : goal.put-requires-2
put-requires-2 c = rw c.ins-2.ensures (fits_addi 10 0 _ (omega arith) (omega arith) (omega arith))

pub returns : goal.returns
returns c =
    let e1 = rw c.ins.ensures at c.in_ok-put.ensures in
    let e2 = rw c.ins-2.ensures at c.in_ok-put-2.ensures in
    let e3 = rw c.ins-3.ensures at c.in_ok-put-3.ensures in
    chain3 c.args.code.now.items c.put.new.code.items c.put-2.new.code.items c.put-3.new.code.items _ _ _ e1 e2 e3
