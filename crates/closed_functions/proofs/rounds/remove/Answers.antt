use Rattle.std.proofs.Common.{◌∙◌}
use Rattle.cps_free.proofs.Sets.{removed}
use Rattle.closed_functions.proofs.Rounding.{member}
use Rattle.closed_functions.proofs.rounds.remove.Goals as goal

pub returns-clause-test : goal.returns-clause-test
returns-clause-test c = c.remove.ensures.test ∙ member c.args.x c.args.set.now.keys

pub returns-clause-members : goal.returns-clause-members
returns-clause-members c = removed c.args.x c.args.set.now.keys c.remove.new.self.keys c.remove.ensures.updates.0
