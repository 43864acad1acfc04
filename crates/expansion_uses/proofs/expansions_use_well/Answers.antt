use Rattle.expansion_uses.proofs.Whole.{expands_to_uses}
use Rattle.expansion_uses.proofs.expansions_use_well.Goals as goal

pub returns : goal.returns
returns c = λ library tree. expands_to_uses library tree
