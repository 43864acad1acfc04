use Rattle.syntax_laws.proofs.Derived.{refused}
use Rattle.syntax_laws.proofs.refused_begins.Goals as goal

pub returns : goal.returns
returns c = λ f g r a s k t o d u e. refused d u e
