use Rattle.close_kept.proofs.Kept.{programs}
use Rattle.close_kept.proofs.programs_are_kept.Goals as goal

pub returns : goal.returns
returns c = programs
