use Rattle.std.proofs.Common.{subst}
use Rattle.heap_reach.specs.Numbers.{IsSet}
use Rattle.heap_reach.proofs.Sets.{kept_set}
use Rattle.heap_reach.proofs.numbers.NumberSet.len.Goals as goal

pub returns-clause-set : goal.returns-clause-set
returns-clause-set c = subst IsSet c.self.view_is (kept_set _ _ _ c.self.invariant)
