use Rattle.lambda_ends.proofs.Ends.{program_ends_in_no_call}
use Rattle.lambda_ends.proofs.program_ends_in_no_call.Goals as goal

pub returns : goal.returns
returns c = program_ends_in_no_call
