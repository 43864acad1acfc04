use Rattle.std.proofs.Common.{sym, ap, ◌∙◌}
use Rattle.plan_factor.specs.Groups.{row_in}
use Rattle.plan_factor.proofs.Keyed.{rest_stays}
use Rattle.plan_factor.proofs.groups.taken.Goals as goal

pub returns-in-Some-clause-row : goal.returns-in-Some-clause-row
returns-in-Some-clause-row c = ap row_in (sym c.in-Some.is ∙ c.remove.ensures.value)

pub returns-in-None-clause-row : goal.returns-in-None-clause-row
returns-in-None-clause-row c = c.new.ensures ∙ ap row_in (sym c.in-None.is ∙ c.remove.ensures.value)

pub returns-in-Some-clause-rest : goal.returns-in-Some-clause-rest
returns-in-Some-clause-rest c q e = rest_stays c.args.groups.now c.remove.new.self c.args.key c.remove.ensures.updates.0 q e
