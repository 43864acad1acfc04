use Rattle.heap_probes.proofs.Folds.{folds_compose}
use Rattle.heap_probes.proofs.laws.folds_compose.Goals as goal

pub returns : goal.returns
returns c = folds_compose
