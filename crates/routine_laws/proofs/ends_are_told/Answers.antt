use Rattle.routine_laws.proofs.Ending.{full_ends, halt_ends}
use Rattle.routine_laws.proofs.ends_are_told.Goals as goal

pub returns-clause-full : goal.returns-clause-full
returns-clause-full c I laid near p code clear used next a f s shown = full_ends I laid near p code clear used next a f s shown

pub returns-clause-halt : goal.returns-clause-halt
returns-clause-halt c I laid p code clear a at z s shown = halt_ends I laid p code clear a at z s shown
