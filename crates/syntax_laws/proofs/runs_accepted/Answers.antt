use Rattle.syntax_laws.proofs.Derived.{run_accepted}
use Rattle.syntax_laws.proofs.runs_accepted.Goals as goal

pub returns : goal.returns
returns c = λ v f g r o d. run_accepted d
