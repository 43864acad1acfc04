use Rattle.sml_def.proofs.Pays as law
use Rattle.sml_def.proofs.reach_pays.Goals as goal

pub returns : goal.returns
returns c = law.reach_pays
