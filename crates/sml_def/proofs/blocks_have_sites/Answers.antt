use Rattle.sml_def.proofs.Sited as sited
use Rattle.sml_def.proofs.blocks_have_sites.Goals as goal

pub returns : goal.returns
returns c = sited.blocks_have_sites
