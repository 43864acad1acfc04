use Rattle.std.proofs.Common.{◌≡◌, ◌++◌, ◌+◌, None}
use Rattle.emit_items.specs.Ends.{all_moved, moves_from}
use Rattle.emit_code.proofs.calls.move_all.Given as goal

abbrev pub decreases-loop-left : goal.decreases-loop-left
decreases-loop-left l = l.left

abbrev pub invariant-loop-left : goal.invariant-loop-left
invariant-loop-left l = l.items.items ++ all_moved l.function l.sources l.labels l.left l.saved l.moves.items ≡ l.fn.items.items ++ all_moved l.function l.sources l.labels (l.fn.count + 1) None (moves_from l.fn.count 1)
