use Rattle.rv_acts.proofs.Doing.{act_done, exit_done}
use Rattle.rv_acts.proofs.acts_are_done.Goals as goal

pub returns-clause-acts : goal.returns-clause-acts
returns-clause-acts c I laid i a b act s shown e = act_done I laid i a b act s shown e

pub returns-clause-exits : goal.returns-clause-exits
returns-clause-exits c I laid a s n shown e p q l = exit_done I laid a s n shown e p q l
