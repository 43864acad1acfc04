use Rattle.rv_run.proofs.Behaves.{behaves}
use Rattle.rv_run.proofs.machine_is_behaviour.Goals as goal

pub returns : goal.returns
returns c table world cuts n = behaves table world cuts n
