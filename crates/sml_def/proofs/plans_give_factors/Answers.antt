use Rattle.sml_def.proofs.Factor as law
use Rattle.sml_def.proofs.plans_give_factors.Goals as goal

pub returns : goal.returns
returns c = law.plans_give_factors
