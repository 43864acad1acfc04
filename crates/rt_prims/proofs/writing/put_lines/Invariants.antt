use Rattle.std.proofs.Common.{◌≡◌, take}
use Rattle.rt_prims.specs.Lines.{with_lines}
use Rattle.rt_prims.proofs.writing.put_lines.Given as goal

abbrev pub invariant-loop-line : goal.invariant-loop-line
invariant-loop-line l = l.asm ≡ with_lines l.first l.fn.asm (take l.line-index l.lines)
