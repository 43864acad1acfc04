use Rattle.rv_pieces.proofs.Jumping.{loop_ends}
use Rattle.rv_pieces.proofs.loops_end.Goals as goal

pub returns : goal.returns
returns c I most a round k = loop_ends I most a round k
