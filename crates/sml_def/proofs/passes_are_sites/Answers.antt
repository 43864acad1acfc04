use Rattle.sml_def.proofs.Sited as sited
use Rattle.sml_def.proofs.passes_are_sites.Goals as goal

pub returns : goal.returns
returns c = sited.passes_are_sites
