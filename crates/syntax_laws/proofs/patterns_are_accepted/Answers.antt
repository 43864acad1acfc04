use Rattle.syntax_laws.proofs.PatternsAccepted.{complete_pat}
use Rattle.syntax_laws.proofs.patterns_are_accepted.Goals as goal

pub returns : goal.returns
returns c = λ v f a b o p k h n g. complete_pat v h k n g
