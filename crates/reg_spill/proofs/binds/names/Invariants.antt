use Rattle.std.proofs.Common.{◌≡◌, take}
use Rattle.place_laws.specs.Live.{names_of}
use Rattle.reg_spill.proofs.binds.names.Given as goal

abbrev pub invariant-loop-maker : goal.invariant-loop-maker
invariant-loop-maker l = l.all.items ≡ names_of (take l.maker-index l.makers)
