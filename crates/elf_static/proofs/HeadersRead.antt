-- Headers that were written are read.
use Rattle.std.proofs.Common.{◌≡◌, ℕ, suc, ◌+◌, List, [], ◌∷◌, ◌++◌, length, refl, ap, ◌∙◌, append_assoc}
use Rattle.elf_static.specs.declared.headers.FileHeader.{FileHeader}
use Rattle.elf_static.specs.declared.headers.ProgramHeader.{ProgramHeader}
use Rattle.elf_static.specs.declared.headers.SectionHeader.{SectionHeader}
use Rattle.elf_static.specs.declared.image.Segment.{Segment}
use Rattle.elf_static.specs.Headers.{file_header, program_header, section_header}
use Rattle.elf_static.specs.Numbers.{table}
use Rattle.elf_static.specs.Writing.{padded, ident, fields, FieldsFit, file_fields, program_fields, program_bytes, program_table, ProgramsFit, section_fields, section_bytes, SectionFits}
use Rattle.elf_static.proofs.FieldsRead.{AreRead, are_read, table_step}

abbrev pub file_header_of : ℕ → FileHeader
file_header_of sections_at = record {
  file_type = 2;
  machine = 243;
  version = 1;
  entry = 0x10000;
  programs_at = 64;
  sections_at = sections_at;
  header_size = 64;
  program_size = 56;
  programs = 3;
  section_size = 64;
  sections = 4;
  names = 3;
}

file_from : (sections_at : ℕ) (bytes : List ℕ) → AreRead 16 (file_fields sections_at) bytes → file_header bytes ≡ file_header_of sections_at
unfolding file_header
file_from sections_at bytes h =
    rw (h.0, h.1.0, h.1.1.0, h.1.1.1.0, h.1.1.1.1.0, h.1.1.1.1.1.0, h.1.1.1.1.1.1.1.0, h.1.1.1.1.1.1.1.1.0, h.1.1.1.1.1.1.1.1.1.0, h.1.1.1.1.1.1.1.1.1.1.0, h.1.1.1.1.1.1.1.1.1.1.1.0, h.1.1.1.1.1.1.1.1.1.1.1.1.0) refl

pub file_read : (sections_at : ℕ) (rest : List ℕ) → FieldsFit (file_fields sections_at) → file_header (ident ++ (fields (file_fields sections_at) ++ rest)) ≡ file_header_of sections_at
file_read sections_at rest fits = file_from sections_at (ident ++ (fields (file_fields sections_at) ++ rest)) (are_read (file_fields sections_at) ident rest fits)

abbrev pub program_header_of : ℕ → Segment → ProgramHeader
program_header_of offset s = record { kind = 1; flags = s.flags; offset = offset; address = s.address; file_size = length s.bytes; memory_size = s.size }

program_from : (offset : ℕ) (s : Segment) (bytes : List ℕ) → AreRead 0 (program_fields offset s) bytes → program_header bytes ≡ program_header_of offset s
unfolding program_header
program_from offset s bytes h = rw (h.0, h.1.0, h.1.1.0, h.1.1.1.0, h.1.1.1.1.1.0, h.1.1.1.1.1.1.0) refl

program_read : (offset : ℕ) (s : Segment) (rest : List ℕ) → FieldsFit (program_fields offset s) → program_header (program_bytes offset s ++ rest) ≡ program_header_of offset s
unfolding program_bytes
program_read offset s rest fits = program_from offset s (fields (program_fields offset s) ++ rest) (are_read (program_fields offset s) [] rest fits)

pub length-program : (offset : ℕ) (s : Segment) → length (program_bytes offset s) ≡ 56
unfolding program_bytes
length-program offset s = refl

-- the headers of segments whose bytes stand one behind the other
abbrev pub program_headers_of : ℕ → List Segment → List ProgramHeader
program_headers_of offset [] = []
program_headers_of offset (s ∷ ss) = program_header_of offset s ∷ program_headers_of (offset + length (padded 4096 s.bytes)) ss

pub programs_read : (offset : ℕ) (ss : List Segment) (rest : List ℕ) → ProgramsFit offset ss → table program_header 56 (length ss) (program_table offset ss ++ rest) ≡ program_headers_of offset ss
programs_read offset [] rest fits = refl
programs_read offset (s ∷ ss) rest fits =
    let next = offset + length (padded 4096 s.bytes) in
    ap (table program_header 56 (suc (length ss))) (append_assoc (program_bytes offset s) (program_table next ss) rest)
    ∙ table_step program_header 56 (length ss) (program_bytes offset s) (program_table next ss ++ rest) (length-program offset s)
    ∙ ap (λ p. p ∷ table program_header 56 (length ss) (program_table next ss ++ rest)) (program_read offset s (program_table next ss ++ rest) fits.0)
    ∙ ap (λ ps. program_header_of offset s ∷ ps) (programs_read next ss rest fits.1)

abbrev pub section_header_of : ℕ → ℕ → ℕ → ℕ → SectionHeader
section_header_of name kind offset size = record { name = name; kind = kind; offset = offset; size = size }

section_from : (name kind offset size : ℕ) (bytes : List ℕ) → AreRead 0 (section_fields name kind offset size) bytes → section_header bytes ≡ section_header_of name kind offset size
unfolding section_header
section_from name kind offset size bytes h = rw (h.0, h.1.0, h.1.1.1.1.0, h.1.1.1.1.1.0) refl

section_read : (name kind offset size : ℕ) (rest : List ℕ) → SectionFits name kind offset size → section_header (section_bytes name kind offset size ++ rest) ≡ section_header_of name kind offset size
unfolding section_bytes
section_read name kind offset size rest fits = section_from name kind offset size (fields (section_fields name kind offset size) ++ rest) (are_read (section_fields name kind offset size) [] rest fits)

pub length-section : (name kind offset size : ℕ) → length (section_bytes name kind offset size) ≡ 64
unfolding section_bytes
length-section name kind offset size = refl

-- one more header of a table
pub section_step : (count name kind offset size : ℕ) (rest : List ℕ) → SectionFits name kind offset size → table section_header 64 (suc count) (section_bytes name kind offset size ++ rest) ≡ section_header_of name kind offset size ∷ table section_header 64 count rest
section_step count name kind offset size rest fits =
    table_step section_header 64 count (section_bytes name kind offset size) rest (length-section name kind offset size)
    ∙ ap (λ s. s ∷ table section_header 64 count rest) (section_read name kind offset size rest fits)
