use Rattle.lambda_laws.proofs.Sizes.{lambda_is_small}
use Rattle.lambda_laws.proofs.lambda_is_small.Goals as goal

pub returns : goal.returns
returns c = lambda_is_small
