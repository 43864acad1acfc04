use Rattle.std.proofs.Common.{◌≡◌, ◌+◌, ◌++◌, length, drop}
use Rattle.elf_static.specs.Writing.{program_table, segment_bytes, ProgramsFit}
use Rattle.elf_static.proofs.writing.put_programs.Given as goal

abbrev pub invariant-loop-s : goal.invariant-loop-s
invariant-loop-s l = record {
  bytes : l.out.items ++ program_table l.offset (drop l.s-index l.segments) ≡ l.fn.out.items ++ program_table 4096 l.segments;
  offset : l.offset + length (segment_bytes (drop l.s-index l.segments)) ≡ 4096 + length (segment_bytes l.segments);
  fit : ProgramsFit l.offset (drop l.s-index l.segments) → ProgramsFit 4096 l.segments;
}
