use Rattle.std.proofs.Common.{rules, ◌≡◌, ◌≢◌, length, sym, ◌∙◌}
use Rattle.std.specs.Prelude.{nat_eq, slice_index_or}
use Rattle.sml_expansion.proofs.OrderLemmas.{right_ends, left_ends, differ}
use Rattle.sml_expansion.proofs.labels.bytes_less.Goals as goal

pub returns-in_default-right : goal.returns-in_default-right
returns-in_default-right c = sym (right_ends _ _ c.in-len1-up.len_at_least c.in_default-right.len_below) ∙ c.loop-left.invariant

pub returns-then-first-second : goal.returns-then-first-second
returns-then-first-second c =
    let other : slice_index_or c.loop-left.left.now 0 0 ≢ slice_index_or c.loop-left.right.now 0 0 = search rules in
    differ c.loop-left.left.now c.loop-left.right.now c.in-len1-up.len_at_least c.in-len1-up-right.len_at_least other ∙ c.loop-left.invariant

pub returns : goal.returns
returns c =
    let empty : c.is_empty.result ≡ nat_eq (length c.loop-left.right.now) 0 = search rules in
    left_ends c.loop-left.left.now c.loop-left.right.now c.is_empty.result c.in_default.len_below empty ∙ c.loop-left.invariant
