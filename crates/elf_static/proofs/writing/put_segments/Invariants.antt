use Rattle.std.proofs.Common.{◌≡◌, ◌++◌, drop}
use Rattle.elf_static.specs.Writing.{segment_bytes}
use Rattle.elf_static.proofs.writing.put_segments.Given as goal

abbrev pub invariant-loop-s : goal.invariant-loop-s
invariant-loop-s l = l.out.items ++ segment_bytes (drop l.s-index l.segments) ≡ l.fn.out.items ++ segment_bytes l.segments
