use Rattle.sml_def.proofs.Pays as law
use Rattle.sml_def.proofs.sites_are_paid.Goals as goal

pub returns : goal.returns
returns c = law.sites_are_paid
