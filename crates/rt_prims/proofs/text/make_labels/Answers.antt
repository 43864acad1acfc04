use Rattle.std.proofs.Common.{arith, ap, ◌∙◌}
use Rattle.rt_prims.proofs.Putting.{told, all_made}
use Rattle.rt_prims.proofs.text.make_labels.Goals as goal

pub returns-in_err-label-clause-err : goal.returns-in_err-label-clause-err
returns-in_err-label-clause-err c = told _ (ap (λ x. x.items) (c.in_err-label.ensures.err ∙ c.loop.invariant.made))

pub returns-clause-ok : goal.returns-clause-ok
returns-clause-ok c = all_made c.args.asm.now c.loop.asm c.loop.counter (omega arith) c.loop.invariant.made
