use Rattle.rv_run.specs.Seen.{blocks}
use Rattle.rv_acts.specs.Trip.{Holds, Anywhere}
use Rattle.rv_acts.proofs.Arena.{arena_watches}
use Rattle.rv_acts.proofs.Trips.{trip_done, trip_lock, trip_walked}
use Rattle.rv_acts.proofs.trips_are_made.Goals as goal

pub returns-clause-done : goal.returns-clause-done
returns-clause-done c I laid n a b t s shown = trip_done I laid n a b t s shown

pub returns-clause-alike : goal.returns-clause-alike
returns-clause-alike c I laid n a b t s u one other = trip_lock I laid Anywhere n a b t s u one other

pub returns-clause-walked : goal.returns-clause-walked
returns-clause-walked c I laid labels ws n a b t h s shown = trip_walked I laid labels (blocks I.entries 0 ws) (Holds I ws) (arena_watches I laid ws) n a b t h s shown
