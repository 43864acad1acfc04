use Rattle.heap_reach.proofs.Counting.{one_count}
use Rattle.heap_reach.proofs.laws.counts_are_one.Goals as goal

pub returns : goal.returns
returns c = one_count
