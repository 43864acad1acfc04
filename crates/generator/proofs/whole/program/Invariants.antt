use Rattle.std.proofs.Common.{◌≡◌, ◌++◌, ◌-◌, ◌≤◌}
use Rattle.generator.specs.Text.{lines, program_text}
use Rattle.generator.proofs.whole.program.Given as goal

abbrev pub invariant-loop-i : goal.invariant-loop-i
invariant-loop-i l = record {
  within : l.i ≤ l.size;
  left : l.text.items ++ lines (l.size - l.i) l.i l.x ≡ program_text l.number l.size;
}
