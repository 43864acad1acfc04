use Rattle.std.proofs.Common.{◌≡◌, ◌≤◌}
use Rattle.sml_lexer.specs.PlainScan.{kept}
use Rattle.sml_lexer.proofs.plain.kept.Given as goal

abbrev pub invariant-loop-left : goal.invariant-loop-left
invariant-loop-left l = (l.left ≤ l.len) × (kept l.bytes l.left ≡ kept l.bytes l.len)

abbrev pub decreases-loop-left : goal.decreases-loop-left
decreases-loop-left l = l.left
