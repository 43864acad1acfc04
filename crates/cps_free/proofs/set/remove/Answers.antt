use Rattle.cps_free.proofs.Sets.{removed}
use Rattle.cps_free.proofs.set.remove.Goals as goal

pub returns : goal.returns
returns c = removed c.args.x c.args.set.now.keys c.remove.new.self.keys c.remove.ensures.updates.0
