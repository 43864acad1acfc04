use Rattle.place_bodies.proofs.Least.{least_same}
use Rattle.place_bodies.proofs.places_see_sets.Goals as goal

pub returns : goal.returns
returns c xs ys s = least_same xs ys s
