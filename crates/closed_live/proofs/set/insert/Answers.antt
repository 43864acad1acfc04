use Rattle.closed_live.proofs.Sets.{inserted}
use Rattle.closed_live.proofs.set.insert.Goals as goal

pub returns : goal.returns
returns c = inserted c.args.x c.args.set.now.keys c.insert.new.self.keys c.in_ok-insert.ensures.updates.0
