use Rattle.std.proofs.Common.{ap, ◌∙◌}
use Rattle.live_classes.specs.Keys.{row_in}
use Rattle.live_classes.proofs.groups.group.Goals as goal

pub returns-in-Some : goal.returns-in-Some
returns-in-Some c = c.items.ensures ∙ ap row_in c.in-Some.ensures.value

pub returns-in-None : goal.returns-in-None
returns-in-None c = ap row_in c.in-None.ensures.value
