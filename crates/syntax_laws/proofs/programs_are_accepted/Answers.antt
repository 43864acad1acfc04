use Rattle.syntax_laws.proofs.ProgramsAccepted.{accepted}
use Rattle.syntax_laws.proofs.programs_are_accepted.Goals as goal

pub returns : goal.returns
returns c = λ v f a o h. accepted v h
