use Rattle.lambda_laws.proofs.Whole.{lambda_keeps}
use Rattle.lambda_laws.proofs.lambda_keeps.Goals as goal

pub returns : goal.returns
returns c = lambda_keeps
