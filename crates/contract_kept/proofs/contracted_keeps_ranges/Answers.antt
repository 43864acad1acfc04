use Rattle.cps_ir.specs.Program.{code_at}
use Rattle.contract_kept.proofs.Keeps.{contracted_in_range}
use Rattle.contract_kept.proofs.Trees.{whole_in_range}
use Rattle.contract_kept.proofs.contracted_keeps_ranges.Goals as goal

pub returns : goal.returns
returns c q p = contracted_in_range q q.texts (code_at q.bodies 0) (whole_in_range q p)
