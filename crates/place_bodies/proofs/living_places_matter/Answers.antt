use Rattle.place_bodies.proofs.Alike.{alike}
use Rattle.place_bodies.proofs.living_places_matter.Goals as goal

pub returns : goal.returns
returns c at there code h = alike code at there h
