-- The section headers, the sections' names, and the sections that have a meaning here.
use Rattle.std.specs.Prelude.{ℕ, ◌+◌, ◌*◌, ◌==◌, ◌&&◌, ◌||◌, not, nat_lt, nat_le, nat_eq, Bool, true, List, [], ◌∷◌, ◌++◌, length, drop, filter, slice_get, codes, if◌then◌else◌, Option, Some, None}
use Rattle.std.specs.List.{list_any, list_all, starts_with}
use Rattle.elf_static.specs.declared.error.ElfKind.TheVariants as kinds
use Rattle.elf_static.specs.declared.checks.Check.{Check}
use Rattle.elf_static.specs.declared.headers.FileHeader.{FileHeader}
use Rattle.elf_static.specs.declared.headers.SectionHeader.{SectionHeader}
use Rattle.elf_static.specs.declared.image.Entries.{Entries}
use Rattle.elf_static.specs.declared.image.Segment.{Segment}
use Rattle.elf_static.specs.Numbers.{piece, table}
use Rattle.elf_static.specs.Headers.{section_header}
use Rattle.elf_static.specs.Checks.{check}
use Rattle.elf_static.specs.Table.{is_right, entries_in, no_entries}

abbrev pub section_headers : List ℕ → FileHeader → List SectionHeader
section_headers file h = table section_header 64 h.sections (drop h.sections_at file)

-- a section of type 0 (SHT_NULL) or 8 (SHT_NOBITS) has no bytes
abbrev pub has_bytes : SectionHeader → Bool
has_bytes s = not ((s.kind == 0) || (s.kind == 8))

abbrev pub section_bytes : List ℕ → SectionHeader → List ℕ
section_bytes file s = if has_bytes s then piece s.offset s.size file else []

abbrev pub passes_end : List ℕ → SectionHeader → Bool
passes_end file s = has_bytes s && nat_lt (length file) (s.offset + s.size)

-- the bytes of a section that may be absent
abbrev pub bytes_at : List ℕ → Option SectionHeader → List ℕ
bytes_at file None = []
bytes_at file (Some s) = section_bytes file s

-- the name table: a name begins at its index there, and ends before the next 0
abbrev pub names_of : List ℕ → FileHeader → List SectionHeader → List ℕ
names_of file h sections = bytes_at file (slice_get sections h.names)

abbrev pub has_name : List ℕ → SectionHeader → Bool
has_name names s = list_any (λ b. b == 0) (drop s.name names)

-- the name's bytes stand there, and then its 0
abbrev pub is_named : List ℕ → List ℕ → SectionHeader → Bool
is_named name names s = starts_with nat_eq (drop s.name names) (name ++ 0 ∷ [])

abbrev pub sections_named : List ℕ → List ℕ → FileHeader → List SectionHeader → List SectionHeader
sections_named name file h sections = filter (is_named name (names_of file h sections)) sections

abbrev pub section_checks : List ℕ → FileHeader → List SectionHeader → List Check
section_checks file h sections =
    check (not (h.sections == 0) && nat_lt (length file) (h.sections_at + 64 * h.sections)) kinds.Short (length file)
    ∷ check (list_any (passes_end file) sections) kinds.Short (length file)
    ∷ check (not (h.sections == 0) && (nat_le h.sections h.names || not (list_all (has_name (names_of file h sections)) sections))) kinds.Section 62
    ∷ []

abbrev pub table_check : List ℕ → List Segment → SectionHeader → Check
table_check file segments s = check (not (is_right segments (section_bytes file s))) kinds.Table s.offset

-- each of the tables of entries is right
abbrev pub right_checks : List ℕ → List Segment → List SectionHeader → List Check
right_checks file segments [] = []
right_checks file segments (s ∷ ss) = table_check file segments s ∷ right_checks file segments ss

-- there is no second one
abbrev pub single_checks : List SectionHeader → List Check
single_checks [] = []
single_checks (s ∷ []) = []
single_checks (s ∷ t ∷ ss) = check true kinds.Table t.offset ∷ []

abbrev pub table_checks : List ℕ → List Segment → List SectionHeader → List Check
table_checks file segments tables = right_checks file segments tables ++ single_checks tables

abbrev pub entries_of : List ℕ → List SectionHeader → Entries
entries_of file [] = no_entries
entries_of file (s ∷ ss) = entries_in (section_bytes file s)

-- the first of the sections, or nothing
abbrev pub first_bytes : List ℕ → List SectionHeader → List ℕ
first_bytes file [] = []
first_bytes file (s ∷ ss) = section_bytes file s

abbrev pub tables_of : List ℕ → FileHeader → List SectionHeader
tables_of file h = sections_named (codes ".sml.entries") file h (section_headers file h)

abbrev pub plan_of : List ℕ → FileHeader → List ℕ
plan_of file h = first_bytes file (sections_named (codes ".sml.plan") file h (section_headers file h))
