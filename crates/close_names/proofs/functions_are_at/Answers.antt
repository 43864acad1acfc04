use Rattle.close_names.proofs.Pointed.{pointed}
use Rattle.close_names.proofs.functions_are_at.Goals as goal

pub returns : goal.returns
returns c = pointed
