use Rattle.rv_machine.proofs.Text.{step_of-inside}
use Rattle.rv_machine.proofs.Alike.{step_of-alike}
use Rattle.rv_machine.proofs.laws.nothing_is_touched_outside.Goals as goal

pub returns-clause-inside : goal.returns-clause-inside
returns-clause-inside c = step_of-inside

pub returns-clause-alike : goal.returns-clause-alike
returns-clause-alike c = step_of-alike
