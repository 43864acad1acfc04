use Rattle.lambda_laws.proofs.Whole.{lambda_goes_in_step}
use Rattle.lambda_laws.proofs.lambda_goes_in_step.Goals as goal

pub returns : goal.returns
returns c = lambda_goes_in_step
