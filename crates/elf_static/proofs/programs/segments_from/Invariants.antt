use Rattle.std.proofs.Common.{◌≡◌, ◌+◌, ◌*◌, ◌≤◌, ◌^◌, ◌++◌, [], drop}
use Rattle.std.specs.Prelude.{sum_by}
use Rattle.std.specs.List.{flat_map}
use Rattle.elf_static.specs.Checks.{first_failed}
use Rattle.elf_static.specs.Load.{size_of}
use Rattle.elf_static.specs.Programs.{program_checks, loaded}
use Rattle.elf_static.proofs.programs.segments_from.Given as goal

abbrev pub invariant-loop-p : goal.invariant-loop-p
invariant-loop-p l = record {
  place : l.place ≡ l.at + 56 * l.p-index;
  first : first_failed (program_checks l.bytes l.place l.segments.items (drop l.p-index l.headers)) ≡ first_failed (program_checks l.bytes l.at [] l.headers);
  read : l.segments.items ++ flat_map (loaded l.bytes) (drop l.p-index l.headers) ≡ flat_map (loaded l.bytes) l.headers;
  room : sum_by size_of l.segments.items ≤ 2 ^ 31;
}
