use Rattle.std.proofs.Common.{length}
use Rattle.sml_tree.specs.IsBare.{IsDistinct}
use Rattle.infer_nodes.proofs.records.is_distinct.Given as goal

abbrev pub invariant-numbers : goal.invariant-numbers
invariant-numbers l = IsDistinct l.rest → IsDistinct l.numbers

abbrev pub decreases-numbers : goal.decreases-numbers
decreases-numbers l = length l.rest
