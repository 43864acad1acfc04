use Rattle.std.specs.Prelude.{take}
use Rattle.sml_tree.specs.Sets.{union, without}
use Rattle.cps_free.specs.Same.{AreSame}
use Rattle.cps_free.proofs.set.insert_but.Given as goal

abbrev pub invariant-loop-x : goal.invariant-loop-x
invariant-loop-x l = AreSame l.set.keys (union (without (take l.x-index l.xs) l.gone) l.fn.set.keys)
