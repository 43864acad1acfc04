use Rattle.syntax_laws.proofs.Derived.{finished_stuck}
use Rattle.syntax_laws.proofs.ended_begins.Goals as goal

pub returns : goal.returns
returns c = λ f g r a t o d. finished_stuck d
