use Rattle.close_seen.proofs.Tables.{lowered}
use Rattle.close_seen.proofs.tables_are_lowered.Goals as goal

pub returns : goal.returns
returns c = lowered
