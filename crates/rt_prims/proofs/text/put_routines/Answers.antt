use Rattle.std.proofs.Common.{refl, arith, ap, length}
use Rattle.rt_prims.proofs.Putting.{number_at, free_here, still_free, as_many, one_more, all_put, begun, told}
use Rattle.rt_prims.proofs.text.put_routines.Goals as goal

pub put_routine-requires-clause-free : goal.put_routine-requires-clause-free
put_routine-requires-clause-free c =
    let i = c.loop-routine.routine-index in
    free_here c.args.first i _ c.loop-routine.asm c.loop-routine.invariant.free (number_at c.args.routines.now i _ c.requires.all c.loop-routine-test.true) (omega (arith, c.loop-routine-test.true, ap length c.requires.all))

pub loop-routine-preserved : goal.loop-routine-preserved
loop-routine-preserved c =
    let w = c.loop-routine.invariant in
    let i = c.loop-routine.routine-index in
    let n = number_at c.args.routines.now i _ c.requires.all c.loop-routine-test.true in
    let is = c.in_ok-put_routine.ensures.ok in
    record {
      put = one_more c.args.first c.args.asm.now c.loop-routine.asm c.put_routine.new.asm c.args.routines.now i _ c.loop-routine-test.true c.requires.all w.put is;
      free = still_free c.args.first i _ _ c.loop-routine.asm c.put_routine.new.asm w.free n refl is;
      many = as_many c.args.first _ c.loop-routine.asm c.put_routine.new.asm _ is w.many;
    }

pub returns-in_err-put_routine-clause-err : goal.returns-in_err-put_routine-clause-err
returns-in_err-put_routine-clause-err c = told _ (begun c.args.first c.args.asm.now c.loop-routine.asm c.put_routine.new.asm c.args.routines.now c.loop-routine.routine-index c.in_err-put_routine.ensures.err.0 _ c.loop-routine-test.true c.requires.all c.loop-routine.invariant.put c.in_err-put_routine.ensures.err.2)

pub returns-clause-ok : goal.returns-clause-ok
returns-clause-ok c = all_put c.args.first c.args.asm.now c.loop-routine.asm c.loop-routine.routine-index (omega (arith, ap length c.requires.all)) c.loop-routine.invariant.put
