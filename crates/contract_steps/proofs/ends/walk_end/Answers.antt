use Rattle.contract_steps.specs.State.{state_of}
use Rattle.contract_steps.proofs.Forms.{equal_step, throw_step}
use Rattle.contract_steps.proofs.ends.walk_end.Goals as goal

pub returns-in-Equal : goal.returns-in-Equal
returns-in-Equal c =
    equal_step c.args.task (state_of c.args.round.now) c.args.program.now.texts _ c.as_slice.result.now c.as_slice.ensures.value c.args.end.now c.equal_left-end.result c.step_end.ensures
    c.in-Equal.left c.in-Equal.right c.in-Equal.truth c.in-Equal.next c.in-Equal.is c.equal_left-end.ensures

pub returns-in-Throw : goal.returns-in-Throw
returns-in-Throw c =
    throw_step c.args.task (state_of c.args.round.now) c.args.program.now.texts _ c.as_slice-in-Throw.result.now c.as_slice-in-Throw.ensures.value c.args.end.now c.throw_left-end.result c.step_end-in-Throw.ensures
    c.in-Throw.packet c.in-Throw.is c.throw_left-end.ensures
