use Rattle.lambda_laws.proofs.Programs.{is_program}
use Rattle.lambda_laws.proofs.lambda_is_program.Goals as goal

pub returns : goal.returns
returns c = is_program
