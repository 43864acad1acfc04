use Rattle.std.proofs.Common.{◌≡◌, ◌++◌, drop}
use Rattle.pass_example.specs.Lower.{lowered}
use Rattle.pass_example.proofs.lower_all.Given as goal

abbrev pub invariant-loop-op : goal.invariant-loop-op
invariant-loop-op l = l.code.items ++ lowered (drop l.op-index l.program) ≡ lowered l.program
