use Rattle.sml_sound.proofs.NeverStuck as law
use Rattle.sml_sound.proofs.source_is_sound.Goals as goal

pub returns : goal.returns
returns c = law.source_is_sound
