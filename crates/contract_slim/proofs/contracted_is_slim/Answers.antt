use Rattle.contract_slim.proofs.Slim.{contracted_slim}
use Rattle.contract_slim.proofs.contracted_is_slim.Goals as goal

pub returns : goal.returns
returns c = contracted_slim
