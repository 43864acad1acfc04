use Rattle.sml_def.proofs.Factor as law
use Rattle.sml_def.proofs.made_pays.Goals as goal

pub returns : goal.returns
returns c = law.made_pays
