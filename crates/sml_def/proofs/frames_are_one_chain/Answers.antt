use Rattle.sml_def.proofs.OneLine as law
use Rattle.sml_def.proofs.frames_are_one_chain.Goals as goal

pub returns : goal.returns
returns c = record { chain = law.frames_are_one_chain; line = law.frames_are_one_line }
