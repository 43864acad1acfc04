use Rattle.contract_rows.proofs.Grown.{grown}
use Rattle.contract_rows.proofs.grows.Goals as goal

pub returns : goal.returns
returns c = grown
