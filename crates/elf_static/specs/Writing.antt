-- The file that is written for an image.
use Rattle.std.specs.Prelude.{ℕ, ◌+◌, ◌-◌, ◌<◌, ◌^◌, All, List, [], ◌∷◌, ◌++◌, length, replicate, codes}
use Rattle.std.specs.List.{flat_map, AllByRecursion}
use Rattle.byteorder.specs.Endian.{little_bytes}
use Rattle.smlc_base.specs.declared.point.PointKind.{PointKind}
use Rattle.smlc_base.specs.declared.point.PointKind.TheVariants.{Fn, Ret, Caught, Popped, Eq}
use Rattle.elf_static.specs.declared.fields.Field.{Field}
use Rattle.elf_static.specs.declared.fields.Field.TheVariants.{Half, Word, Double}
use Rattle.elf_static.specs.declared.image.EntryRow.{EntryRow}
use Rattle.elf_static.specs.declared.image.Entries.{Entries}
use Rattle.elf_static.specs.declared.image.Image.{Image}
use Rattle.elf_static.specs.declared.image.Segment.{Segment}
use Rattle.elf_static.specs.Layout.{round_up}

-- a field of two, four or eight bytes
abbrev pub field_bytes : Field → List ℕ
field_bytes (Half n) = little_bytes 2 n
field_bytes (Word n) = little_bytes 4 n
field_bytes (Double n) = little_bytes 8 n

-- the number fits
abbrev pub FieldFits : Field → Type 0
FieldFits (Half n) = n < 2 ^ 16
FieldFits (Word n) = n < 2 ^ 32
FieldFits (Double n) = n < 2 ^ 64

abbrev pub FieldsFit : List Field → Type 0
FieldsFit fs = AllByRecursion FieldFits fs

abbrev pub fields : List Field → List ℕ
fields fs = flat_map field_bytes fs

-- the bytes, and 0 up to the next multiple of n
abbrev pub padded : ℕ → List ℕ → List ℕ
padded n bytes = bytes ++ replicate (round_up n (length bytes) - length bytes) 0

-- ELF64, little-endian, version 1
abbrev pub ident : List ℕ
ident = 0x7F ∷ 0x45 ∷ 0x4C ∷ 0x46 ∷ 2 ∷ 1 ∷ 1 ∷ 0 ∷ 0 ∷ 0 ∷ 0 ∷ 0 ∷ 0 ∷ 0 ∷ 0 ∷ 0 ∷ []

-- the file header behind its identification
abbrev pub file_fields : ℕ → List Field
file_fields sections_at =
    Half 2  -- e_type: an executable file
    ∷ Half 243  -- e_machine: RISC-V
    ∷ Word 1  -- e_version
    ∷ Double 0x10000  -- e_entry
    ∷ Double 64  -- e_phoff
    ∷ Double sections_at
    ∷ Word 0  -- e_flags
    ∷ Half 64  -- e_ehsize
    ∷ Half 56  -- e_phentsize
    ∷ Half 3  -- e_phnum
    ∷ Half 64  -- e_shentsize
    ∷ Half 4  -- e_shnum
    ∷ Half 3  -- e_shstrndx
    ∷ []

-- the program header of a segment whose bytes begin at an offset
abbrev pub program_fields : ℕ → Segment → List Field
program_fields offset s =
    Word 1  -- p_type: PT_LOAD
    ∷ Word s.flags  -- p_flags
    ∷ Double offset  -- p_offset
    ∷ Double s.address  -- p_vaddr
    ∷ Double s.address  -- p_paddr
    ∷ Double (length s.bytes)  -- p_filesz
    ∷ Double s.size  -- p_memsz
    ∷ Double 4096  -- p_align
    ∷ []

unfoldable pub program_bytes : ℕ → Segment → List ℕ
program_bytes offset s = fields (program_fields offset s)

abbrev pub program_table : ℕ → List Segment → List ℕ
program_table offset [] = []
program_table offset (s ∷ ss) = program_bytes offset s ++ program_table (offset + length (padded 4096 s.bytes)) ss

-- a section's header. What isn't named is 0
abbrev pub section_fields : ℕ → ℕ → ℕ → ℕ → List Field
section_fields name kind offset size =
    Word name  -- sh_name
    ∷ Word kind  -- sh_type
    ∷ Double 0  -- sh_flags
    ∷ Double 0  -- sh_addr
    ∷ Double offset  -- sh_offset
    ∷ Double size  -- sh_size
    ∷ Word 0  -- sh_link
    ∷ Word 0  -- sh_info
    ∷ Double 0  -- sh_addralign
    ∷ Double 0  -- sh_entsize
    ∷ []

abbrev pub number_of_kind : PointKind → ℕ
number_of_kind Fn = 0
number_of_kind Ret = 1
number_of_kind Caught = 2
number_of_kind Popped = 3
number_of_kind Eq = 4

abbrev pub row_fields : EntryRow → List Field
row_fields r = Double r.address ∷ Word r.label.0 ∷ Word (number_of_kind r.point.kind) ∷ Word r.point.node ∷ Word r.roots ∷ []

unfoldable pub row_bytes : EntryRow → List ℕ
row_bytes r = fields (row_fields r)

abbrev pub RowFits : EntryRow → Type 0
RowFits r = FieldsFit (row_fields r)

-- what stands behind the name of a table of entries, before its rows
abbrev pub table_fields : Entries → List Field
table_fields e = Word 1 ∷ Word (length e.rows) ∷ Word e.factor ∷ Word e.spill ∷ Word 0 ∷ Double e.arena ∷ Double e.arena_words ∷ []

pub record EntriesFit (e : Entries) : Type 0 where
  pub fields : FieldsFit (table_fields e)
  pub rows : All RowFits e.rows

unfoldable pub table_bytes : Entries → List ℕ
table_bytes e = codes "SMLE" ++ fields (table_fields e) ++ flat_map row_bytes e.rows

-- the segments' bytes, each from a multiple of 4,096 on
abbrev pub segment_bytes : List Segment → List ℕ
segment_bytes ss = flat_map (λ (s : Segment). padded 4096 s.bytes) ss

-- the name table, with `.sml.entries` at 1, `.sml.plan` at 14 and `.shstrtab` at 24
abbrev pub names : List ℕ
names = 0 ∷ codes ".sml.entries" ++ 0 ∷ codes ".sml.plan" ++ 0 ∷ codes ".shstrtab" ++ 0 ∷ []

-- where the sections begin, one behind the other
abbrev pub entries_at : Image → ℕ
entries_at image = 4096 + length (segment_bytes image.segments)

abbrev pub plan_at : Image → ℕ
plan_at image = entries_at image + length (table_bytes image.entries)

abbrev pub names_at : Image → ℕ
names_at image = plan_at image + length (padded 8 image.plan)

abbrev pub sections_at : Image → ℕ
sections_at image = names_at image + length (padded 8 names)

unfoldable pub section_bytes : ℕ → ℕ → ℕ → ℕ → List ℕ
section_bytes name kind offset size = fields (section_fields name kind offset size)

abbrev pub section_table : Image → List ℕ
section_table image =
    section_bytes 0 0 0 0
    ++ section_bytes 1 1 (entries_at image) (length (table_bytes image.entries))
    ++ section_bytes 14 1 (plan_at image) (length image.plan)
    ++ section_bytes 24 3 (names_at image) (length names)

unfoldable pub headers : Image → List ℕ
headers image = ident ++ fields (file_fields (sections_at image)) ++ program_table 4096 image.segments

-- the headers, the segments' bytes, the three sections, and their headers. The table of entries is a multiple of 8 bytes long
unfoldable pub written : Image → List ℕ
written image =
    padded 4096 (headers image)
    ++ segment_bytes image.segments
    ++ table_bytes image.entries
    ++ padded 8 image.plan
    ++ padded 8 names
    ++ section_table image

-- the numbers of all headers and of the table of entries fit their fields
abbrev pub ProgramsFit : ℕ → List Segment → Type 0
ProgramsFit offset [] = Unit {0}
ProgramsFit offset (s ∷ ss) = FieldsFit (program_fields offset s) × ProgramsFit (offset + length (padded 4096 s.bytes)) ss

abbrev pub SectionFits : ℕ → ℕ → ℕ → ℕ → Type 0
SectionFits name kind offset size = FieldsFit (section_fields name kind offset size)

pub record SectionsFit (image : Image) : Type 0 where
  pub empty : SectionFits 0 0 0 0
  pub entries : SectionFits 1 1 (entries_at image) (length (table_bytes image.entries))
  pub plan : SectionFits 14 1 (plan_at image) (length image.plan)
  pub names : SectionFits 24 3 (names_at image) (length names)

pub record HeadersFit (image : Image) : Type 0 where
  pub file : FieldsFit (file_fields (sections_at image))
  pub programs : ProgramsFit 4096 image.segments

pub record NumbersFit (image : Image) : Type 0 where
  pub headers : HeadersFit image
  pub entries : EntriesFit image.entries
  pub sections : SectionsFit image
