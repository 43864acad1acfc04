use Rattle.simulation.proofs.Nth.{entries_are_passes, nth_one}
use Rattle.simulation.proofs.entries_are_passes.Goals as goal

pub returns : goal.returns
returns c = record { in_step = entries_are_passes; one = λ r p i m n. nth_one p r i m n }
