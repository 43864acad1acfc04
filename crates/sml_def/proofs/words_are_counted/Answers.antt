use Rattle.sml_def.proofs.Census as counted
use Rattle.sml_def.proofs.words_are_counted.Goals as goal

pub returns : goal.returns
returns c = counted.words_are_counted
