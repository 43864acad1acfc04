use Rattle.std.proofs.Common.{arith}
use Rattle.print_code.proofs.FitsCode.{fits_addi, fits_add, fits_sub, fits_bne}
use Rattle.print_code.proofs.Chain.{chain6}
use Rattle.print_code.proofs.code.put_loop.Goals as goal

pub put-requires : goal.put-requires
put-requires c = rw c.ins.ensures (fits_addi 10 0 _ (omega arith) (omega arith) (omega arith))

pub put-requires-2 : goal.put-requires-2
put-requires-2 c = rw c.ins-2.ensures (fits_addi 17 0 _ (omega arith) (omega arith) (omega arith))

pub put-requires-4 : goal.put-requires-4
put-requires-4 c = rw c.ins-4.ensures (fits_add)

pub put-requires-5 : goal.put-requires-5
put-requires-5 c = rw c.ins-5.ensures (fits_sub)

pub put-requires-6 : goal.put-requires-6
put-requires-6 c = rw c.ins-6.ensures (fits_bne)

pub returns : goal.returns
returns c =
    let e1 = rw c.ins.ensures at c.in_ok-put.ensures in
    let e2 = rw c.ins-2.ensures at c.in_ok-put-2.ensures in
    let e3 = rw c.ins-3.ensures at c.in_ok-put-3.ensures in
    let e4 = rw c.ins-4.ensures at c.in_ok-put-4.ensures in
    let e5 = rw c.ins-5.ensures at c.in_ok-put-5.ensures in
    let e6 = rw c.ins-6.ensures at c.in_ok-put-6.ensures in
    chain6 c.args.code.now.items c.put.new.code.items c.put-2.new.code.items c.put-3.new.code.items c.put-4.new.code.items c.put-5.new.code.items c.put-6.new.code.items _ _ _ _ _ _ e1 e2 e3 e4 e5 e6
