use Rattle.std.proofs.Common.{◌≡◌, ◌-◌, ◌≤◌, length, take}
use Rattle.close_laws.specs.Text.{label_line, lines_from}
use Rattle.plan_text.proofs.lines.label_lines.Given as goal

abbrev pub invariant-loop-i : goal.invariant-loop-i
invariant-loop-i l = record {
  within : l.i ≤ length l.labels;
  done : l.text.items ≡ lines_from label_line 0 (take l.i l.labels);
}

abbrev pub decreases-loop-i : goal.decreases-loop-i
decreases-loop-i l = length l.labels - l.i
