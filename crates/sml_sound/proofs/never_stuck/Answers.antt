use Rattle.sml_sound.proofs.NeverStuck as law
use Rattle.sml_sound.proofs.never_stuck.Goals as goal

pub returns : goal.returns
returns c = law.never_stuck
