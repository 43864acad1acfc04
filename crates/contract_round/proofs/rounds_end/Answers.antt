use Rattle.contract_round.proofs.Ends.{rounds_end}
use Rattle.contract_round.proofs.rounds_end.Goals as goal

pub returns : goal.returns
returns c = rounds_end
