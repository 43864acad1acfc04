use Rattle.std.proofs.Common.{◌≡◌, ◌++◌, ◌-◌, ◌+◌}
use Rattle.emit_items.specs.Making.{filled}
use Rattle.emit_code.proofs.making.fill.Given as goal

abbrev pub invariant-loop-k : goal.invariant-loop-k
invariant-loop-k l = l.items.items ++ filled (l.count - l.k) (l.k + 1) ≡ l.fn.items.items ++ filled l.count 1
