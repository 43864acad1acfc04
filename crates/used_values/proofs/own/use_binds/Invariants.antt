use Rattle.std.specs.Prelude.{take}
use Rattle.sml_tree.specs.Sets.{union, union_over}
use Rattle.cps_free.specs.Same.{AreSame}
use Rattle.used_values.specs.Own.{own_bind}
use Rattle.used_values.proofs.own.use_binds.Given as goal

abbrev pub invariant-loop-bind : goal.invariant-loop-bind
invariant-loop-bind l = AreSame l.set.keys (union (union_over own_bind (take l.bind-index l.binds)) l.fn.set.keys)
