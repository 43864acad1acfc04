use Rattle.contract_round.proofs.Ends.{nothing_is_left}
use Rattle.contract_round.proofs.nothing_is_left.Goals as goal

pub returns : goal.returns
returns c = nothing_is_left
