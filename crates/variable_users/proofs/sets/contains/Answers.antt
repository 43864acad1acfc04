use Rattle.std.proofs.Common.{◌∙◌}
use Rattle.variable_users.proofs.Putting.{member}
use Rattle.variable_users.proofs.sets.contains.Goals as goal

pub returns : goal.returns
returns c = c.contains.ensures ∙ member c.args.x c.args.set.now.keys
