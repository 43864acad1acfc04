use Rattle.std.proofs.Common.{true}
use Rattle.simulation.proofs.Compose.{keeps_trans}
use Rattle.simulation.proofs.the_last_pass_composes.Goals as goal

pub returns : goal.returns
returns c = keeps_trans true
