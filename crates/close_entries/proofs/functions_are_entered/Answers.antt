use Rattle.close_entries.proofs.Entering.{functions_enter}
use Rattle.close_entries.proofs.functions_are_entered.Goals as goal

pub returns : goal.returns
returns c = functions_enter
