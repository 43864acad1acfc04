use Rattle.close_rows.proofs.Lowering.{main_lowers}
use Rattle.close_rows.proofs.main_is_lowered.Goals as goal

pub returns : goal.returns
returns c = main_lowers
