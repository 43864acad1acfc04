use Rattle.cps_free.proofs.Sets.{inserted}
use Rattle.variable_users.proofs.sets.insert.Goals as goal

pub returns : goal.returns
returns c = inserted c.args.x c.args.set.now.keys c.insert.new.self.keys c.in_ok-insert.ensures.updates.0
