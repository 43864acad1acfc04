use Rattle.rv_acts.proofs.Locks.{alike_along}
use Rattle.rv_acts.proofs.lockstep_is_alike.Goals as goal

pub returns : goal.returns
returns c table s t meets n = alike_along table s t meets n
