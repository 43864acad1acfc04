use Rattle.contract_laws.proofs.Rounds.{contraction_is_a_pass}
use Rattle.contract_laws.proofs.contraction_is_a_pass.Goals as goal

pub returns : goal.returns
returns c = contraction_is_a_pass
