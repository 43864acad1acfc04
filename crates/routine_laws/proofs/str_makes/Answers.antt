use Rattle.routine_laws.proofs.Raising.{strings, str_fills}
use Rattle.routine_laws.proofs.str_makes.Goals as goal

pub returns-clause-fits : goal.returns-clause-fits
returns-clause-fits c I laid near p full code clear letter top ret a s l r = strings I laid near p full code clear letter top ret a s l r

pub returns-clause-full : goal.returns-clause-full
returns-clause-full c I laid near p full code clear letter top ret a s l f = str_fills I laid near p full code clear letter top ret a s l f
