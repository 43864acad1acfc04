use Rattle.convert_unfold.proofs.Named.{finds}
use Rattle.convert_unfold.proofs.functions_unfold.Goals as goal

pub returns : goal.returns
returns c = finds
