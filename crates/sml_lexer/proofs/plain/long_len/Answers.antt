use Rattle.std.proofs.Common.{length, ◌+◌, refl, ap, ◌∙◌, arith, rules}
use Rattle.std.proofs.lemmas.List.{take_rest}
use Rattle.sml_lexer.specs.PlainScan.{part_at}
use Rattle.sml_lexer.proofs.PlainScanLemmas.{left_stop, left_nothing, left_last, left_more}
use Rattle.sml_lexer.proofs.plain.long_len.Goals as goal

pub loop-part-init : goal.loop-part-init
loop-part-init c = record { in_range = omega arith; left = (length c.args.bytes.now, (omega arith, refl)) }

pub returns-then-part-eq0-clause-value : goal.returns-then-part-eq0-clause-value
returns-then-part-eq0-clause-value c = left_nothing _ _ _ (search rules) c.part_at-part.result (c.part_at-part.ensures.value ∙ ap part_at (take_rest c.args.bytes.now (c.loop-part.end + 1))) _ c.loop-part.invariant.left.1 c.if-part-eq0.true

pub returns-then-not-part-clause-value : goal.returns-then-not-part-clause-value
returns-then-not-part-clause-value c = left_last _ _ _ (search rules) c.part_at-part.result (c.part_at-part.ensures.value ∙ ap part_at (take_rest c.args.bytes.now (c.loop-part.end + 1))) _ c.loop-part.invariant.left.1 c.if-part-eq0.false (search rules)

pub loop-part-preserved : goal.loop-part-preserved
loop-part-preserved c =
    record { in_range = search rules; left = left_more _ _ _ (search rules) c.part_at-part.result (c.part_at-part.ensures.value ∙ ap part_at (take_rest c.args.bytes.now (c.loop-part.end + 1))) _ c.loop-part.invariant.left.1 c.if-part-eq0.false (search rules) }

pub returns-clause-value : goal.returns-clause-value
returns-clause-value c = left_stop _ _ _ _ c.loop-part.invariant.left.1 (search rules)
