use Rattle.contract_holds.proofs.Rounds.{goes_on}
use Rattle.contract_holds.proofs.round_goes_on.Goals as goal

pub returns : goal.returns
returns c = goes_on
