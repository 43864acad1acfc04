use Rattle.convert_unfold.proofs.Same.{unfolds}
use Rattle.convert_unfold.proofs.conversion_unfolds.Goals as goal

pub returns : goal.returns
returns c = unfolds
