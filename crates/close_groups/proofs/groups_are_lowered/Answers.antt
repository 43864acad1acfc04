use Rattle.close_groups.proofs.Lowering.{groups_lower}
use Rattle.close_groups.proofs.groups_are_lowered.Goals as goal

pub returns : goal.returns
returns c = groups_lower
