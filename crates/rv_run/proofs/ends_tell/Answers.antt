use Rattle.rv_run.proofs.Ends.{tells}
use Rattle.rv_run.proofs.ends_tell.Goals as goal

pub returns : goal.returns
returns c table s = tells table s
