use Rattle.std.specs.Prelude.{take}
use Rattle.sml_tree.specs.Sets.{union, union_over, row_at}
use Rattle.cps_free.specs.Rows.{function_free}
use Rattle.cps_free.specs.Same.{AreSame}
use Rattle.cps_free.proofs.binds.use_functions.Given as goal

abbrev pub invariant-loop-function : goal.invariant-loop-function
invariant-loop-function l = AreSame l.set.keys (union (union_over (function_free (row_at l.frees)) (take l.function-index l.functions)) l.fn.set.keys)
