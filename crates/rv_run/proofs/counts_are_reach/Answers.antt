use Rattle.rv_run.proofs.Counting.{counts_reach}
use Rattle.rv_run.proofs.counts_are_reach.Goals as goal

pub returns : goal.returns
returns c table s roots h = counts_reach table s roots h
