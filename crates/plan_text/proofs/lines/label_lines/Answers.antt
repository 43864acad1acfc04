use Rattle.std.proofs.Common.{◌++◌, ◌∙◌, refl, ap, arith}
use Rattle.close_laws.specs.Text.{label_line}
use Rattle.plan_text.proofs.More.{line_more}
use Rattle.plan_text.proofs.lines.label_lines.Goals as goal

pub loop-i-preserved : goal.loop-i-preserved
loop-i-preserved c = record {
  within = omega (arith, c.loop-i-test.true);
  done =
      line_more label_line c.args.labels.now c.loop-i.i _ _ c.loop-i.text.items c.put.new.text.items c.in_ok-line.line.items c.loop-i-test.true refl c.loop-i.invariant.done c.in_ok-line.ensures
      (c.in_ok-put.ensures ∙ ap (λ s. c.loop-i.text.items ++ s) c.deref.ensures.value);
}
