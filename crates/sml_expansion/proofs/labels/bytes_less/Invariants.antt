use Rattle.std.proofs.Common.{◌≡◌, length}
use Rattle.sml_tree.specs.IsBare.{bytes_less}
use Rattle.sml_expansion.proofs.labels.bytes_less.Given as goal

abbrev pub invariant-loop-left : goal.invariant-loop-left
invariant-loop-left l = bytes_less l.left l.right ≡ bytes_less l.fn.left l.fn.right

abbrev pub decreases-loop-left : goal.decreases-loop-left
decreases-loop-left l = length l.left
