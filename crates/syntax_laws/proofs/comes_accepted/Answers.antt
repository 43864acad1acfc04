use Rattle.syntax_laws.proofs.Derived.{comes_accepted}
use Rattle.syntax_laws.proofs.comes_accepted.Goals as goal

pub returns : goal.returns
returns c = λ v f g r a k o p d h. comes_accepted d h
