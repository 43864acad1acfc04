use Rattle.sml_def.proofs.Census as counted
use Rattle.sml_def.proofs.census_counts.Goals as goal

pub returns : goal.returns
returns c = counted.census_counts
