use Rattle.std.proofs.Common.{◌≡◌, ℕ, List, length, drop, take, ◌-◌, sym, ap, ◌∙◌, arith}
use Rattle.std.proofs.lemmas.List.{take_rest}
use Rattle.sml_lexer.specs.declared.comment.Mark.{Mark}
use Rattle.sml_lexer.specs.CommentScan.{mark_at}
use Rattle.sml_lexer.proofs.CommentScanLemmas.{left_opened, left_closed, left_done, left_neither, left_none}
use Rattle.sml_lexer.proofs.comment.comment_len.Goals as goal

mark : (bytes : List ℕ) (at : ℕ) (m : Mark) → m ≡ mark_at (take (length bytes - at) (drop at bytes)) → mark_at (drop at bytes) ≡ m
mark bytes at m e = sym (e ∙ ap mark_at (take_rest bytes at))

pub loop-at-preserved-in-Open : goal.loop-at-preserved-in-Open
loop-at-preserved-in-Open c = record {
  in_range = omega arith;
  nested = omega arith;
  left = left_opened c.args.bytes.now c.loop-at.at c.loop-at.depth c.loop-at-test.true (mark c.args.bytes.now c.loop-at.at _ c.in-Open.ensures) ∙ c.loop-at.invariant.left;
}

pub loop-at-preserved-in-Close : goal.loop-at-preserved-in-Close
loop-at-preserved-in-Close c = record {
  in_range = omega arith;
  nested = omega arith;
  left = left_closed c.args.bytes.now c.loop-at.at c.loop-at.depth c.loop-at-test.true (mark c.args.bytes.now c.loop-at.at _ c.in-Close.ensures) c.if-depth-eq0.false ∙ c.loop-at.invariant.left;
}

pub returns-then-depth-eq0-clause-value : goal.returns-then-depth-eq0-clause-value
returns-then-depth-eq0-clause-value c =
    left_done c.args.bytes.now c.loop-at.at c.loop-at.depth c.loop-at-test.true (mark c.args.bytes.now c.loop-at.at _ c.in-Close.ensures) c.if-depth-eq0.true ∙ c.loop-at.invariant.left

pub loop-at-preserved : goal.loop-at-preserved
loop-at-preserved c = record {
  in_range = omega arith;
  nested = omega arith;
  left = left_neither c.args.bytes.now c.loop-at.at c.loop-at.depth c.loop-at-test.true (mark c.args.bytes.now c.loop-at.at _ c.in-Neither.ensures) ∙ c.loop-at.invariant.left;
}

pub returns-clause-value : goal.returns-clause-value
returns-clause-value c = left_none c.args.bytes.now c.loop-at.at c.loop-at.depth c.loop-at-test.false ∙ c.loop-at.invariant.left
