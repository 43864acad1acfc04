use Rattle.routine_laws.proofs.Turn.{delivers}
use Rattle.routine_laws.proofs.empty_turn_delivers.Goals as goal

pub returns : goal.returns
returns c I laid near q full code clear inside f ret a e r = delivers I laid near q full code clear inside f ret a e r
