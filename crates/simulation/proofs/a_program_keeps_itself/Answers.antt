use Rattle.simulation.proofs.Compose.{keeps_refl}
use Rattle.simulation.proofs.a_program_keeps_itself.Goals as goal

pub returns : goal.returns
returns c = keeps_refl
