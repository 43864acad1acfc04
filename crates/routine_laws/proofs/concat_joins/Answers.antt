use Rattle.routine_laws.proofs.Joining.{joins, fills}
use Rattle.routine_laws.proofs.concat_joins.Goals as goal

pub returns-clause-fits : goal.returns-clause-fits
returns-clause-fits c I laid near p full code clear us bs xa xb top ret a s l r = joins I laid near p full code clear us bs xa xb top ret a s l r

pub returns-clause-full : goal.returns-clause-full
returns-clause-full c I laid near p full code clear us bs xa xb top ret a s l f = fills I laid near p full code clear us bs xa xb top ret a s l f
