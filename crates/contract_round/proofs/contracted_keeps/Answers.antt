use Rattle.contract_round.proofs.RoundLaw.{contracted_keeps}
use Rattle.contract_round.proofs.contracted_keeps.Goals as goal

pub returns : goal.returns
returns c = contracted_keeps
