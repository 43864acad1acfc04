use Rattle.std.proofs.Common.{◌≡◌, ◌++◌, ◌+◌, ◌-◌}
use Rattle.emit_items.specs.Ends.{moves_from}
use Rattle.emit_code.proofs.calls.moves_from.Given as goal

abbrev pub invariant-loop-k : goal.invariant-loop-k
invariant-loop-k l = l.moves.items ++ moves_from (l.count - l.k) (l.k + 1) ≡ moves_from l.count 1
