use Rattle.close_decisions.proofs.Below.{programs}
use Rattle.close_decisions.proofs.programs_have.Goals as goal

pub returns : goal.returns
returns c = programs
