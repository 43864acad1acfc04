use Rattle.contract_laws.proofs.Rounds.{contraction_keeps}
use Rattle.contract_laws.proofs.contraction_keeps.Goals as goal

pub returns : goal.returns
returns c = contraction_keeps
