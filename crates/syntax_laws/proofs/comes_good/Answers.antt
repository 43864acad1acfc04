use Rattle.syntax_laws.proofs.Derived.{comes_good}
use Rattle.syntax_laws.proofs.comes_good.Goals as goal

pub returns : goal.returns
returns c = λ v f g r a k o d. comes_good d
