use Rattle.std.proofs.Common.{◌+◌, ◌*◌, ◌≤◌}
use Rattle.sml_expansion.specs.Terms.{Term}
use Rattle.sml_expansion.specs.Sources.{IsAt}
use Rattle.sml_derive.proofs.TopLemmas.{LeftShown}
use Rattle.sml_derive.proofs.top_trees.+shown.Given as goal

abbrev pub decreases-shown_decs : goal.decreases-shown_decs
decreases-shown_decs l = l.at * 4 + 3

abbrev pub decreases-shown_dec : goal.decreases-shown_dec
decreases-shown_dec l = l.at * 4

abbrev pub invariant-shown_decs-loop-first : goal.invariant-shown_decs-loop-first
invariant-shown_decs-loop-first l = record {
  left : (t : Term) → IsAt l.parsed l.fn.at t → LeftShown l.parsed t l.fn.walk l.walk l.fn.shown.items l.shown.items l.next;
  below : l.next ≤ l.fn.at;
}

abbrev pub decreases-shown_decs-loop-first : goal.decreases-shown_decs-loop-first
decreases-shown_decs-loop-first l = l.next
