use Rattle.convert_kept.proofs.Closed as law
use Rattle.convert_kept.proofs.conversion_is_closed.Goals as goal

pub returns : goal.returns
returns c = law.conversion_is_closed
