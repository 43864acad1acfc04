use Rattle.simulation.proofs.Chains.{making_is_paid}
use Rattle.simulation.proofs.making_is_paid.Goals as goal

pub returns : goal.returns
returns c = making_is_paid
