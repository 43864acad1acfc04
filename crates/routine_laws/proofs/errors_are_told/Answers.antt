use Rattle.routine_laws.proofs.Telling.{tells_errors}
use Rattle.routine_laws.proofs.errors_are_told.Goals as goal

pub returns : goal.returns
returns c I laid near x n p code clear a s = tells_errors I laid near x n p code clear a s
