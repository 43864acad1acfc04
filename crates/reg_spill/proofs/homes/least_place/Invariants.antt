use Rattle.std.proofs.Common.{◌-◌}
use Rattle.reg_spill.proofs.Taken.{AllBelow}
use Rattle.reg_spill.proofs.homes.least_place.Given as goal

abbrev pub invariant-loop-place : goal.invariant-loop-place
invariant-loop-place l = AllBelow l.place l.taken.keys

abbrev pub decreases-loop-place : goal.decreases-loop-place
decreases-loop-place l = 4294967296 - l.place
