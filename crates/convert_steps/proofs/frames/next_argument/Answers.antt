use Rattle.convert_steps.proofs.frames.next_argument.Goals as goal

pub returns : goal.returns
returns c = c.in_ok-task.ensures
