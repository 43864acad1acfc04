use Rattle.std.specs.Prelude.{take, ◌++◌}
use Rattle.closed_live.specs.Same.{AreSame}
use Rattle.closed_live.proofs.set.insert_all.Given as goal

abbrev pub invariant-loop-x : goal.invariant-loop-x
invariant-loop-x l = AreSame l.set.keys (take l.x-index l.xs ++ l.fn.set.keys)
