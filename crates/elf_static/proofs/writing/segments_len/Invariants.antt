use Rattle.std.proofs.Common.{◌≡◌, ◌+◌, length, drop}
use Rattle.elf_static.specs.Writing.{segment_bytes}
use Rattle.elf_static.proofs.writing.segments_len.Given as goal

abbrev pub invariant-loop-s : goal.invariant-loop-s
invariant-loop-s l = l.len + length (segment_bytes (drop l.s-index l.segments)) ≡ length (segment_bytes l.segments)
