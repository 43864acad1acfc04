-- The program headers, and the segments that they name.
use Rattle.std.specs.Prelude.{ℕ, ◌+◌, ◌%◌, ◌^◌, ◌==◌, ◌&&◌, ◌||◌, not, nat_lt, nat_le, Bool, List, [], ◌∷◌, ◌++◌, length, drop, sum_by, if◌then◌else◌}
use Rattle.std.specs.List.{list_any, flat_map}
use Rattle.elf_static.specs.declared.error.ElfKind.TheVariants as kinds
use Rattle.elf_static.specs.declared.checks.Check.{Check}
use Rattle.elf_static.specs.declared.headers.FileHeader.{FileHeader}
use Rattle.elf_static.specs.declared.headers.ProgramHeader.{ProgramHeader}
use Rattle.elf_static.specs.declared.image.Segment.{Segment}
use Rattle.elf_static.specs.Numbers.{piece, table}
use Rattle.elf_static.specs.Headers.{program_header}
use Rattle.elf_static.specs.Checks.{check}
use Rattle.elf_static.specs.Load.{size_of}

abbrev pub program_headers : List ℕ → FileHeader → List ProgramHeader
program_headers file h = table program_header 56 h.programs (drop h.programs_at file)

-- a header of type 1 (PT_LOAD) names a segment
abbrev pub segment_of : List ℕ → ProgramHeader → Segment
segment_of file p = record { address = p.address; flags = p.flags; bytes = piece p.offset p.file_size file; size = p.memory_size }

-- headers of other types are passed over
abbrev pub loaded : List ℕ → ProgramHeader → List Segment
loaded file p = if p.kind == 1 then segment_of file p ∷ [] else []

abbrev pub segments_of : List ℕ → FileHeader → List Segment
segments_of file h = flat_map (loaded file) (program_headers file h)

-- an address is one of both
abbrev pub overlaps : ProgramHeader → Segment → Bool
overlaps p s = nat_lt 0 p.memory_size && nat_lt 0 s.size && nat_lt p.address (s.address + s.size) && nat_lt s.address (p.address + p.memory_size)

-- the checks of a header of type 1 that stands at an offset of the file, behind headers that name the earlier segments
abbrev pub load_checks : List ℕ → ℕ → List Segment → ProgramHeader → List Check
load_checks file at earlier p =
    check (nat_lt p.memory_size p.file_size) kinds.Segment (at + 40)
    ∷ check (nat_lt (2 ^ 63) (p.address + p.memory_size)) kinds.Segment (at + 16)
    ∷ check (nat_lt (length file) (p.offset + p.file_size)) kinds.Short (length file)
    ∷ check (list_any (overlaps p) earlier) kinds.Overlap (at + 16)
    ∷ check (nat_lt (2 ^ 31) (sum_by size_of earlier + p.memory_size)) kinds.TooLarge (at + 40)
    ∷ []

-- types 2 and 3 (PT_DYNAMIC and PT_INTERP) are those of dynamic linking
abbrev pub program_check : List ℕ → ℕ → List Segment → ProgramHeader → List Check
program_check file at earlier p =
    check ((p.kind == 2) || (p.kind == 3)) kinds.Dynamic at
    ∷ (if p.kind == 1 then load_checks file at earlier p else [])

-- header by header, from an offset on
abbrev pub program_checks : List ℕ → ℕ → List Segment → List ProgramHeader → List Check
program_checks file at earlier [] = []
program_checks file at earlier (p ∷ ps) = program_check file at earlier p ++ program_checks file (at + 56) (earlier ++ loaded file p) ps

-- an address of a segment with the flag to execute
abbrev pub is_executable_at : ℕ → Segment → Bool
is_executable_at a s = (s.flags % 2 == 1) && nat_le s.address a && nat_lt a (s.address + s.size)

abbrev pub entry_check : ℕ → List Segment → Check
entry_check entry segments = check (not ((entry % 4 == 0) && list_any (is_executable_at entry) segments)) kinds.Entry 24
