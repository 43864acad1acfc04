use Rattle.sml_def.proofs.Census as counted
use Rattle.sml_def.proofs.census_is_of_reach.Goals as goal

pub returns : goal.returns
returns c = counted.census_is_of_reach
