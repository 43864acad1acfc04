use Rattle.sml_def.proofs.Sound as law
use Rattle.sml_def.proofs.source_is_tidy.Goals as goal

pub returns : goal.returns
returns c = law.source_is_tidy
