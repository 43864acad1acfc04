use Rattle.std.proofs.Common.{rules, ◌≡◌, ◌<◌, ◌≤◌, ◌-◌, ◌++◌, ap, ◌∙◌, arith}
use Rattle.generator.specs.Text.{last_line}
use Rattle.generator.proofs.More.{line_more, all_lines}
use Rattle.generator.proofs.whole.program.Goals as goal

pub loop-i-preserved : goal.loop-i-preserved
loop-i-preserved c =
    let more : c.loop-i.i < c.args.size = search rules in
    record {
      within = omega (arith, more);
      left = line_more c.args.size c.loop-i.i c.loop-i.x c.next-x.result c.loop-i.text.items c.put_line.new.text.items _ more c.next-x.ensures c.in_ok-put_line.ensures c.loop-i.invariant.left;
    }

pub returns : goal.returns
returns c =
    let over : c.args.size ≤ c.loop-i.i = search rules in
    let before : c.saturating_sub.result ≡ c.args.size - 1 = search rules in
    all_lines c.args.size c.loop-i.i c.loop-i.x c.loop-i.text.items c.put_last.new.text.items _ c.loop-i.invariant.within over
    (c.in_ok-put_last.ensures ∙ ap (λ n. c.loop-i.text.items ++ last_line n) before) c.loop-i.invariant.left
