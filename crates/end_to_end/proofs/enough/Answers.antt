use Rattle.end_to_end.proofs.Source.{enough}
use Rattle.end_to_end.proofs.enough.Goals as goal

pub returns : goal.returns
returns c = λ p input charge factor spill arena used next err e m bare h. enough p input charge factor spill arena used next err e m bare h
