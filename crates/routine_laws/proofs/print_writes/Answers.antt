use Rattle.routine_laws.proofs.Joining.{prints}
use Rattle.routine_laws.proofs.print_writes.Goals as goal

pub returns : goal.returns
returns c I laid near p code clear bs x top ret a s r = prints I laid near p code clear bs x top ret a s r
