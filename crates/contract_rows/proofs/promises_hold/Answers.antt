use Rattle.contract_rows.proofs.Grown.{held}
use Rattle.contract_rows.proofs.promises_hold.Goals as goal

pub returns : goal.returns
returns c = held
