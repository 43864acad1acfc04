use Rattle.simulation.proofs.Chains.{chain_keeps}
use Rattle.simulation.proofs.every_pass_keeps.Goals as goal

pub returns : goal.returns
returns c = chain_keeps
