use Rattle.std.proofs.Common.{false}
use Rattle.simulation.proofs.Compose.{keeps_trans}
use Rattle.simulation.proofs.passes_compose.Goals as goal

pub returns : goal.returns
returns c = keeps_trans false
