use Rattle.sml_def.proofs.OneSite as law
use Rattle.sml_def.proofs.frames_nest.Goals as goal

pub returns : goal.returns
returns c = law.frames_nest
