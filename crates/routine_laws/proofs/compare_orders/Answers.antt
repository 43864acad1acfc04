use Rattle.routine_laws.proofs.Comparing.{compares}
use Rattle.routine_laws.proofs.compare_orders.Goals as goal

pub returns : goal.returns
returns c I laid near p code clear us bs xa xb top ret a s r = compares I laid near p code clear us bs xa xb top ret a s r
