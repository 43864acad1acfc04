use Rattle.contract_round.proofs.RoundLaw.{contracted_by_rounds}
use Rattle.contract_round.proofs.contracted_by_rounds.Goals as goal

pub returns : goal.returns
returns c = contracted_by_rounds
