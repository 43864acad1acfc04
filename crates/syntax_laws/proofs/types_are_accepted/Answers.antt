use Rattle.syntax_laws.proofs.TypesAccepted.{complete_ty}
use Rattle.syntax_laws.proofs.types_are_accepted.Goals as goal

pub returns : goal.returns
returns c = λ v f a b o p k h n g. complete_ty v h k n g
