use Rattle.close_seen.proofs.Tables.{seen}
use Rattle.close_seen.proofs.tables_are_seen.Goals as goal

pub returns : goal.returns
returns c = seen
