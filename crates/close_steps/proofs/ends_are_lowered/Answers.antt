use Rattle.close_steps.proofs.Lowering.{ends_lower}
use Rattle.close_steps.proofs.ends_are_lowered.Goals as goal

pub returns : goal.returns
returns c = ends_lower
