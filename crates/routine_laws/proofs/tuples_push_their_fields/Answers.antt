use Rattle.routine_laws.proofs.Turn.{pushes}
use Rattle.routine_laws.proofs.tuples_push_their_fields.Goals as goal

pub returns : goal.returns
returns c I laid near q full code clear inside o y u v n many top f g a s = pushes I laid near q full code clear inside o y u v n many top f g a s
