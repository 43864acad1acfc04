use Rattle.close_rows.proofs.Lowering.{all_lower}
use Rattle.close_rows.proofs.all_are_lowered.Goals as goal

pub returns : goal.returns
returns c = all_lower
