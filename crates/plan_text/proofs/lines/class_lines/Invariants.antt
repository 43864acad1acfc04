use Rattle.std.proofs.Common.{◌≡◌, ◌-◌, ◌≤◌, length, take}
use Rattle.close_laws.specs.Text.{class_line, lines_from}
use Rattle.plan_text.proofs.lines.class_lines.Given as goal

abbrev pub invariant-loop-i : goal.invariant-loop-i
invariant-loop-i l = record {
  within : l.i ≤ length l.classes;
  done : l.text.items ≡ lines_from class_line 0 (take l.i l.classes);
}

abbrev pub decreases-loop-i : goal.decreases-loop-i
decreases-loop-i l = length l.classes - l.i
