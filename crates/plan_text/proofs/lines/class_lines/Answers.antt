use Rattle.std.proofs.Common.{◌++◌, ◌∙◌, ap, arith}
use Rattle.close_laws.specs.Text.{class_line}
use Rattle.plan_text.proofs.More.{line_more}
use Rattle.plan_text.proofs.lines.class_lines.Goals as goal

pub loop-i-preserved : goal.loop-i-preserved
loop-i-preserved c = record {
  within = omega (arith, c.loop-i-test.true);
  done =
      line_more class_line c.args.classes.now c.loop-i.i _ c.index-classes-i.result c.loop-i.text.items c.put.new.text.items c.in_ok-line.line.items c.loop-i-test.true c.index-classes-i.is c.loop-i.invariant.done c.in_ok-line.ensures
      (c.in_ok-put.ensures ∙ ap (λ s. c.loop-i.text.items ++ s) c.deref.ensures.value);
}
