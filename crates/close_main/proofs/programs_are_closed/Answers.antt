use Rattle.close_main.proofs.Main.{closed}
use Rattle.close_main.proofs.programs_are_closed.Goals as goal

pub returns : goal.returns
returns c = closed
