use Rattle.sml_def.proofs.Reaches as reaches
use Rattle.sml_def.proofs.reach_is_least.Goals as goal

pub returns : goal.returns
returns c = record { least = reaches.reach_is_least; words = reaches.words_are_reached }
