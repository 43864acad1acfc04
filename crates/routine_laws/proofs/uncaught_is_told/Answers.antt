use Rattle.routine_laws.proofs.Leaving.{ends_uncaught}
use Rattle.routine_laws.proofs.uncaught_is_told.Goals as goal

pub returns : goal.returns
returns c I laid near p front back st clear top name x y t a s u shown = ends_uncaught I laid near p front back st clear top name x y t a s u shown
