use Rattle.close_laws.proofs.ClosedSets.{greatest_closed}
use Rattle.close_laws.proofs.closed_functions_are_greatest.Goals as goal

pub returns : goal.returns
returns c code = greatest_closed code
