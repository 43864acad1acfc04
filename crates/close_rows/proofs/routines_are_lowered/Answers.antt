use Rattle.close_rows.proofs.Lowering.{routines_lower}
use Rattle.close_rows.proofs.routines_are_lowered.Goals as goal

pub returns : goal.returns
returns c = routines_lower
