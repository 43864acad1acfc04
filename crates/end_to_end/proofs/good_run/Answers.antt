use Rattle.end_to_end.proofs.Source.{good_run}
use Rattle.end_to_end.proofs.good_run.Goals as goal

pub returns : goal.returns
returns c = λ p input charge factor spill arena used next err e m bare h. good_run p input charge factor spill arena used next err e m bare h
