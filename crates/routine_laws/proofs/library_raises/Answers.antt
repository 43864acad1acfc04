use Rattle.routine_laws.proofs.Raising.{raises}
use Rattle.routine_laws.proofs.library_raises.Goals as goal

pub returns : goal.returns
returns c I laid p name ret code clear reach a h r = raises I laid p name ret code clear reach a h r
