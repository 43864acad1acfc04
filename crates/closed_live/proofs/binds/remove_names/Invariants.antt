use Rattle.std.specs.Prelude.{take}
use Rattle.place_laws.specs.Live.{without_all, names_of}
use Rattle.closed_live.specs.Same.{AreSame}
use Rattle.closed_live.proofs.binds.remove_names.Given as goal

abbrev pub invariant-loop-maker : goal.invariant-loop-maker
invariant-loop-maker l = AreSame l.set.keys (without_all (names_of (take l.maker-index l.makers)) l.fn.set.keys)
