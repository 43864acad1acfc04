use Rattle.std.proofs.Common.{◌∙◌}
use Rattle.closed_functions.proofs.Rounding.{member}
use Rattle.closed_functions.proofs.rounds.contains.Goals as goal

pub returns : goal.returns
returns c = c.contains.ensures ∙ member c.args.x c.args.set.now.keys
