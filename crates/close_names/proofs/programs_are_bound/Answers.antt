use Rattle.close_names.proofs.Standing.{programs}
use Rattle.close_names.proofs.programs_are_bound.Goals as goal

pub returns : goal.returns
returns c = programs
