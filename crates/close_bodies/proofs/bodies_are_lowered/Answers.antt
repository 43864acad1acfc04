use Rattle.close_bodies.proofs.Lowering.{bodies_lower}
use Rattle.close_bodies.proofs.bodies_are_lowered.Goals as goal

pub returns : goal.returns
returns c = bodies_lower
