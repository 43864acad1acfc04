use Rattle.contract_holds.proofs.Rounds.{ends}
use Rattle.contract_holds.proofs.round_ends.Goals as goal

pub returns : goal.returns
returns c = ends
