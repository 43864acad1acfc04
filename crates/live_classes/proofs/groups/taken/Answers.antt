use Rattle.std.proofs.Common.{sym, ap, ◌∙◌}
use Rattle.live_classes.specs.Keys.{row_in}
use Rattle.live_classes.proofs.Grouping.{rest_stays}
use Rattle.live_classes.proofs.groups.taken.Goals as goal

pub returns-in-Some-clause-row : goal.returns-in-Some-clause-row
returns-in-Some-clause-row c = ap row_in (sym c.in-Some.is ∙ c.remove.ensures.value)

pub returns-in-None-clause-row : goal.returns-in-None-clause-row
returns-in-None-clause-row c = c.new.ensures ∙ ap row_in (sym c.in-None.is ∙ c.remove.ensures.value)

pub returns-in-Some-clause-rest : goal.returns-in-Some-clause-rest
returns-in-Some-clause-rest c q e = rest_stays c.args.groups.now c.remove.new.self c.args.key.now c.remove.ensures.updates.0 q e
