use Rattle.heap_reach.proofs.Adding.{target_some, adds_none}
use Rattle.heap_reach.proofs.walk.add_target.Goals as goal

pub returns-in-Some-clause-adds : goal.returns-in-Some-clause-adds
returns-in-Some-clause-adds c = target_some _ _ _ _ c.in-Some.number _ _ c.in-Some.ensures c.add.ensures.adds

pub returns-in_default-clause-adds : goal.returns-in_default-clause-adds
returns-in_default-clause-adds c = adds_none _ _ c.in_default.ensures
