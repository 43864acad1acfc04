use Rattle.sane_laws.proofs.Runs.{runs_are_sane}
use Rattle.sane_laws.proofs.runs_are_sane.Goals as goal

pub returns : goal.returns
returns c = runs_are_sane
