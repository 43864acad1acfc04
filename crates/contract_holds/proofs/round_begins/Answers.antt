use Rattle.contract_holds.proofs.Rounds.{begins}
use Rattle.contract_holds.proofs.round_begins.Goals as goal

pub returns : goal.returns
returns c = begins
