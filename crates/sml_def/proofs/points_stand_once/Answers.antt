use Rattle.sml_def.proofs.Sound as law
use Rattle.sml_def.proofs.points_stand_once.Goals as goal

pub returns : goal.returns
returns c = law.points_stand_once
