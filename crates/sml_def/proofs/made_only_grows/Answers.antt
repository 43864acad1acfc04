use Rattle.sml_def.proofs.MadeGrows as made
use Rattle.sml_def.proofs.made_only_grows.Goals as goal

pub returns : goal.returns
returns c = made.made_only_grows
