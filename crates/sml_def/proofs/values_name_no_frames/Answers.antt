use Rattle.sml_def.proofs.Apart as law
use Rattle.sml_def.proofs.values_name_no_frames.Goals as goal

pub returns : goal.returns
returns c = law.values_name_no_frames
