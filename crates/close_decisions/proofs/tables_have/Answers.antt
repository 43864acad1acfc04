use Rattle.close_decisions.proofs.Having.{having}
use Rattle.close_decisions.proofs.tables_have.Goals as goal

pub returns : goal.returns
returns c = having
