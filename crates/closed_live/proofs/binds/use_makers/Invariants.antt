use Rattle.std.specs.Prelude.{take, ◌++◌}
use Rattle.place_laws.specs.Live.{used_by_makers}
use Rattle.closed_live.specs.Same.{AreSame}
use Rattle.closed_live.proofs.binds.use_makers.Given as goal

abbrev pub invariant-loop-maker : goal.invariant-loop-maker
invariant-loop-maker l = AreSame l.set.keys (used_by_makers (take l.maker-index l.makers) ++ l.fn.set.keys)
