use Rattle.std.proofs.Common.{◌≡◌, ◌++◌, map, drop}
use Rattle.sml_def.specs.Sites.{site_of}
use Rattle.sml_def.proofs.sites.points.Given as goal

abbrev pub invariant-loop-spot : goal.invariant-loop-spot
invariant-loop-spot l =
    l.found ++ map (site_of l.places) (drop l.spot-index l.spot-items) ≡ map (site_of l.places) l.spot-items
