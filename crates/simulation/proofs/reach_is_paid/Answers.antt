use Rattle.simulation.proofs.Chains.{reach_is_paid}
use Rattle.simulation.proofs.reach_is_paid.Goals as goal

pub returns : goal.returns
returns c = reach_is_paid
