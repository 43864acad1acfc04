use Rattle.std.specs.Prelude.{take, ◌++◌}
use Rattle.place_laws.specs.Live.{all_used_by}
use Rattle.closed_live.specs.Same.{AreSame}
use Rattle.closed_live.proofs.binds.use_operands.Given as goal

abbrev pub invariant-loop-operand : goal.invariant-loop-operand
invariant-loop-operand l = AreSame l.set.keys (all_used_by (take l.operand-index l.operands) ++ l.fn.set.keys)
