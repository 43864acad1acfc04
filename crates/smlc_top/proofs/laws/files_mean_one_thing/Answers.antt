use Rattle.smlc_top.proofs.OneThing.{tree_once, tree_apart, refusal_once}
use Rattle.smlc_top.proofs.laws.files_mean_one_thing.Goals as goal

pub returns-clause-tree : goal.returns-clause-tree
returns-clause-tree c = λ files a b h k. tree_once files a b h k

pub returns-clause-apart : goal.returns-clause-apart
returns-clause-apart c = λ files bare r h k. tree_apart files bare r h k

pub returns-clause-refusal : goal.returns-clause-refusal
returns-clause-refusal c = λ library files q r l h k. refusal_once files library l q r h k
