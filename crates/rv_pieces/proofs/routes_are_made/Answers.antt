use Rattle.rv_acts.specs.Trip.{Anywhere}
use Rattle.rv_pieces.proofs.Routing.{route_done, route_lock, route_walked}
use Rattle.rv_pieces.proofs.routes_are_made.Goals as goal

pub returns-clause-done : goal.returns-clause-done
returns-clause-done c I laid n a b t s shown = route_done I laid n a b t s shown

pub returns-clause-alike : goal.returns-clause-alike
returns-clause-alike c I laid n a b t s u one other = route_lock I laid Anywhere n a b t s u one other

pub returns-clause-walked : goal.returns-clause-walked
returns-clause-walked c I laid labels ws n a b t h s shown = route_walked I laid labels ws n a b t h s shown
