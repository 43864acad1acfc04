use Rattle.convert_steps.proofs.Matched.{is_tested}
use Rattle.convert_steps.proofs.matches.matching_of.Goals as goal

pub returns-in_default : goal.returns-in_default
returns-in_default c = is_tested c.args.cases.now c.case-item.result c.items.result.now c.in-len1-up.len_at_least c.case-item.is c.items.ensures c.in_default.len_at_least
