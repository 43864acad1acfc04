use Rattle.std.proofs.Common.{arith}
use Rattle.sml_unify.proofs.bind.fresh.Goals as goal

pub var-requires : goal.var-requires
var-requires c = record { named = λ i v q e. let low = c.requires.below i v q in absurd (omega arith) }
