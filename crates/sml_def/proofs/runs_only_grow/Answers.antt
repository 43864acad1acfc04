use Rattle.sml_def.proofs.Grows as grows
use Rattle.sml_def.proofs.runs_only_grow.Goals as goal

pub returns : goal.returns
returns c = grows.runs_only_grow
