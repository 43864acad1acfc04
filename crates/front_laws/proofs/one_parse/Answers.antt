use Rattle.front_laws.proofs.Once.{one_tree, tree_or_refusal, one_refusal}
use Rattle.front_laws.proofs.one_parse.Goals as goal

pub returns-clause-tree : goal.returns-clause-tree
returns-clause-tree c = λ a b s t same h g. one_tree a b same s t h g

pub returns-clause-apart : goal.returns-clause-apart
returns-clause-apart c = λ a b s r same h g. tree_or_refusal a b same s r h g

pub returns-clause-refusal : goal.returns-clause-refusal
returns-clause-refusal c = λ a b q r same h g. one_refusal a b same q r h g
