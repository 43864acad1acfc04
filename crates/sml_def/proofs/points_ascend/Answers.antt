use Rattle.sml_def.proofs.Ascends as ascends
use Rattle.sml_def.proofs.points_ascend.Goals as goal

pub returns : goal.returns
returns c = ascends.points_ascend
