use Rattle.factor_laws.proofs.Factor.{factor_at_most_4}
use Rattle.factor_laws.proofs.factor_is_at_most_4.Goals as goal

pub returns : goal.returns
returns c = factor_at_most_4
