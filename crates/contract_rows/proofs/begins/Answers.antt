use Rattle.contract_rows.proofs.Grown.{begun}
use Rattle.contract_rows.proofs.begins.Goals as goal

pub returns : goal.returns
returns c = begun
