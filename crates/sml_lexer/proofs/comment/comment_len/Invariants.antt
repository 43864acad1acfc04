use Rattle.std.proofs.Common.{◌≡◌, ◌≤◌, ◌-◌, length, drop}
use Rattle.sml_lexer.specs.CommentScan.{close_at, shifted}
use Rattle.sml_lexer.proofs.comment.comment_len.Given as goal

abbrev pub invariant-loop-at : goal.invariant-loop-at
invariant-loop-at l = record {
  in_range : l.at ≤ length l.bytes;
  nested : l.depth ≤ l.at;
  left : shifted l.at (close_at l.depth (drop l.at l.bytes)) ≡ close_at 0 l.bytes;
}

abbrev pub decreases-loop-at : goal.decreases-loop-at
decreases-loop-at l = length l.bytes - l.at
