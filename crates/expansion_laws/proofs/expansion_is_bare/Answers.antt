use Rattle.expansion_laws.proofs.Clauses.{expands_to_bare}
use Rattle.expansion_laws.proofs.expansion_is_bare.Goals as goal

pub returns : goal.returns
returns c = λ library tree. expands_to_bare library tree
