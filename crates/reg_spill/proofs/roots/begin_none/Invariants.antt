use Rattle.std.proofs.Common.{◌≡◌, map, take}
use Rattle.place_laws.specs.Place.{nowhere}
use Rattle.reg_spill.proofs.roots.begin_none.Given as goal

abbrev pub invariant-loop-live : goal.invariant-loop-live
invariant-loop-live l = l.entries.items ≡ map (map nowhere) (take l.live-index l.lives)
