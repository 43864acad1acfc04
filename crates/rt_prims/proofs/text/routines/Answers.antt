use Rattle.rt_prims.proofs.Putting.{told, new_free, begun_from}
use Rattle.rt_prims.proofs.text.routines.Goals as goal

pub put_routines-requires-clause-free : goal.put_routines-requires-clause-free
put_routines-requires-clause-free c = new_free _ c.args.asm.now c.make_labels.new.asm c.in_ok-first.ensures.first c.in_ok-first.ensures.ok

pub returns-in_err-put_routines-clause-err : goal.returns-in_err-put_routines-clause-err
returns-in_err-put_routines-clause-err c = told _ (begun_from _ _ c.args.asm.now c.make_labels.new.asm _ c.in_ok-first.ensures.first c.in_ok-first.ensures.ok c.in_err-put_routines.ensures.err)
