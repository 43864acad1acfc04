use Rattle.contract_round.proofs.RoundLaw.{slim_is_whole}
use Rattle.contract_round.proofs.slim_is_whole.Goals as goal

pub returns : goal.returns
returns c = slim_is_whole
