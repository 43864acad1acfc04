use Rattle.std.proofs.Common.{◌≤◌, length, sym, subst}
use Rattle.convert_decide.proofs.Rules.{two_rules}
use Rattle.convert_decide.proofs.table.rules_need.Goals as goal

pub returns-in_default : goal.returns-in_default
returns-in_default c =
    sym (two_rules _ c.args.cases.now c.case-item-2.result c.in-len2-up.len_at_least c.case-item-2.is (subst (λ xs. 1 ≤ length xs) c.items.ensures c.in_default.len_at_least))
