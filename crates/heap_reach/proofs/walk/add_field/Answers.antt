use Rattle.std.proofs.Common.{sym, ◌∙◌}
use Rattle.heap_reach.proofs.Adding.{field_some}
use Rattle.heap_reach.proofs.walk.add_field.Goals as goal

pub returns-in-Some-clause-adds : goal.returns-in-Some-clause-adds
returns-in-Some-clause-adds c = field_some _ _ _ _ c.in-Some.word _ _ (sym c.word.ensures ∙ c.in-Some.is) c.add_target.ensures.adds
