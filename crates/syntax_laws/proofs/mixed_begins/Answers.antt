use Rattle.syntax_laws.proofs.Derived.{mixed}
use Rattle.syntax_laws.proofs.mixed_begins.Goals as goal

pub returns : goal.returns
returns c = λ f g r a s k t o d e. mixed d e
