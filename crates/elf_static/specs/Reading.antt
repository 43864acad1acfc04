-- What the bytes of a file mean: the image, or the first check that fails.
use Rattle.std.specs.Prelude.{ℕ, ◌+◌, ◌*◌, ◌==◌, ◌&&◌, ◌||◌, not, nat_lt, List, [], ◌∷◌, ◌++◌, length, slice_index, Option, Some, None, Result, Ok, Err}
use Rattle.elf_static.specs.declared.error.ElfError.{ElfError}
use Rattle.elf_static.specs.declared.error.ElfKind.TheVariants as kinds
use Rattle.elf_static.specs.declared.checks.Check.{Check}
use Rattle.elf_static.specs.declared.headers.FileHeader.{FileHeader}
use Rattle.elf_static.specs.declared.image.Image.{Image}
use Rattle.elf_static.specs.Headers.{file_header}
use Rattle.elf_static.specs.Checks.{check, first_failed}
use Rattle.elf_static.specs.Programs.{program_headers, program_checks, segments_of, entry_check}
use Rattle.elf_static.specs.Sections.{section_headers, section_checks, table_checks, tables_of, entries_of, plan_of}

-- a byte of the identification
abbrev pub ident_check : List ℕ → ℕ → ℕ → Check
ident_check file at byte = check (not (slice_index file at == byte)) kinds.Ident at

-- a little-endian ELF64 file of version 1, executable, for RISC-V (243), with headers of the sizes of ELF64 and 1 to 64 program headers in the file
abbrev pub header_checks : List ℕ → FileHeader → List Check
header_checks file h =
    ident_check file 0 0x7F
    ∷ ident_check file 1 0x45
    ∷ ident_check file 2 0x4C
    ∷ ident_check file 3 0x46
    ∷ ident_check file 4 2
    ∷ ident_check file 5 1
    ∷ ident_check file 6 1
    ∷ check (not (h.file_type == 2)) kinds.FileType 16
    ∷ check (not (h.machine == 243)) kinds.Machine 18
    ∷ check (not (h.version == 1)) kinds.Version 20
    ∷ check (not (h.header_size == 64)) kinds.Sizes 52
    ∷ check (not (h.program_size == 56)) kinds.Sizes 54
    ∷ check (not (h.sections == 0) && not (h.section_size == 64)) kinds.Sizes 58
    ∷ check ((h.programs == 0) || nat_lt 64 h.programs) kinds.Programs 56
    ∷ check (nat_lt (length file) (h.programs_at + 56 * h.programs)) kinds.Short (length file)
    ∷ []

abbrev pub size_check : List ℕ → Check
size_check file = check (nat_lt (length file) 64) kinds.Short (length file)

-- the checks behind those of the file header h
unfoldable pub later_checks : List ℕ → FileHeader → List Check
later_checks file h =
    program_checks file h.programs_at [] (program_headers file h)
    ++ (entry_check h.entry (segments_of file h)
    ∷ (section_checks file h (section_headers file h)
    ++ table_checks file (segments_of file h) (tables_of file h)))

-- all checks in order, under the file header h
unfoldable pub checks_under : List ℕ → FileHeader → List Check
checks_under file h = size_check file ∷ header_checks file h ++ later_checks file h

-- the image that a file means which passes them
unfoldable pub image_under : List ℕ → FileHeader → Image
image_under file h = record {
  entry = h.entry;
  segments = segments_of file h;
  entries = entries_of file (tables_of file h);
  plan = plan_of file h;
}

abbrev pub answer : Option ElfError → Image → Result Image ElfError
answer None image = Ok image
answer (Some e) image = Err e

-- the image, or the first check that fails with its offset
unfoldable pub meaning_of : List ℕ → Result Image ElfError
meaning_of file = answer (first_failed (checks_under file (file_header file))) (image_under file (file_header file))
