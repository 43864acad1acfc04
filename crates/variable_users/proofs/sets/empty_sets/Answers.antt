use Rattle.variable_users.proofs.Putting.{emptied}
use Rattle.variable_users.proofs.sets.empty_sets.Goals as goal

pub loop-preserved : goal.loop-preserved
loop-preserved c = emptied c.loop.counter c.loop.sets.items c.push.new.self.items c.new.result c.loop.invariant c.new.ensures.empty c.in_ok-push.ensures.items
