use Rattle.infer_laws.proofs.Left.{node_left}
use Rattle.infer_laws.proofs.written_types_stay.Goals as goal

pub returns : goal.returns
returns c = λ p names abbreviations f n explicit_ones rows closed. node_left p names abbreviations f n explicit_ones rows closed
