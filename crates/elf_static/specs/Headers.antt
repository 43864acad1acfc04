-- The fields of the headers of ELF64 that have a meaning here, each at its offset.
use Rattle.std.specs.Prelude.{ℕ, List}
use Rattle.elf_static.specs.declared.headers.FileHeader.{FileHeader}
use Rattle.elf_static.specs.declared.headers.ProgramHeader.{ProgramHeader}
use Rattle.elf_static.specs.declared.headers.SectionHeader.{SectionHeader}
use Rattle.elf_static.specs.Numbers.{number}

unfoldable pub file_header : List ℕ → FileHeader
file_header bytes = record {
  file_type = number 2 16 bytes;
  machine = number 2 18 bytes;
  version = number 4 20 bytes;
  entry = number 8 24 bytes;
  programs_at = number 8 32 bytes;
  sections_at = number 8 40 bytes;
  header_size = number 2 52 bytes;
  program_size = number 2 54 bytes;
  programs = number 2 56 bytes;
  section_size = number 2 58 bytes;
  sections = number 2 60 bytes;
  names = number 2 62 bytes;
}

unfoldable pub program_header : List ℕ → ProgramHeader
program_header bytes = record {
  kind = number 4 0 bytes;
  flags = number 4 4 bytes;
  offset = number 8 8 bytes;
  address = number 8 16 bytes;
  file_size = number 8 32 bytes;
  memory_size = number 8 40 bytes;
}

unfoldable pub section_header : List ℕ → SectionHeader
section_header bytes = record {
  name = number 4 0 bytes;
  kind = number 4 4 bytes;
  offset = number 8 24 bytes;
  size = number 8 32 bytes;
}
