use Rattle.std.proofs.Common.{sym, ◌∙◌, arith}
use Rattle.infer_checks.proofs.ValueFacts.{vars_same}
use Rattle.infer_checks.proofs.values.are_same.Goals as goal

pub returns : goal.returns
returns c ok = vars_same _ (λ v w e. grind arith) c.args.vars.now c.args.others.now (sym c.eq.ensures ∙ ok)
