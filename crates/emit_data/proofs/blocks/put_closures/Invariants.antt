use Rattle.std.proofs.Common.{◌≡◌, ◌-◌, ◌++◌, get_or}
use Rattle.emit_data.specs.Blocks.{closures_from}
use Rattle.emit_data.proofs.blocks.put_closures.Given as goal

abbrev pub invariant-loop-label : goal.invariant-loop-label
invariant-loop-label l = l.bytes.items ++ closures_from (λ k. get_or l.at k 0) (l.count - l.label) l.label ≡ l.fn.bytes.items ++ closures_from (λ k. get_or l.at k 0) l.count 0
