use Rattle.syntax_laws.proofs.ProgramsSound.{sound}
use Rattle.syntax_laws.proofs.accepted_are_programs.Goals as goal

pub returns : goal.returns
returns c = λ v f a o h. sound h
