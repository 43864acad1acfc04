-- The table of entries: its bytes, and when it is right.
use Rattle.std.specs.Prelude.{ℕ, suc, ◌≡◌, ◌+◌, ◌*◌, ◌/◌, ◌%◌, ◌<◌, ◌≤◌, ◌^◌, ◌⊎◌, ◌==◌, ◌&&◌, ◌||◌, not, nat_lt, nat_le, nat_eq, Bool, true, List, [], ◌∷◌, length, drop, map, codes, if◌then◌else◌, Any, AllPairs, ◌≢◌, slice_index_or}
use Rattle.std.specs.List.{list_any, list_all, starts_with}
use Rattle.smlc_base.specs.declared.point.PointKind.{PointKind}
use Rattle.smlc_base.specs.declared.point.PointKind.TheVariants.{Fn, Ret, Caught, Popped, Eq}
use Rattle.elf_static.specs.declared.image.EntryRow.{EntryRow}
use Rattle.elf_static.specs.declared.image.Entries.{Entries}
use Rattle.elf_static.specs.declared.image.Segment.{Segment}
use Rattle.elf_static.specs.Numbers.{number, table}

-- the kind of a point by its number, which is below 5
abbrev pub kind_of : ℕ → PointKind
kind_of n = if n == 0 then Fn else (if n == 1 then Ret else (if n == 2 then Caught else (if n == 3 then Popped else Eq)))

abbrev pub kind_number : List ℕ → ℕ
kind_number bytes = number 4 12 bytes

-- a row of 24 bytes
unfoldable pub entry_row : List ℕ → EntryRow
entry_row bytes = record {
  address = number 8 0 bytes;
  label = record { 0 = number 4 8 bytes };
  point = record { kind = kind_of (kind_number bytes); node = number 4 16 bytes };
  roots = number 4 20 bytes;
}

-- what a table means: 40 bytes, and its rows behind them
unfoldable pub entries_in : List ℕ → Entries
entries_in bytes = record {
  rows = table entry_row 24 (number 4 8 bytes) (drop 40 bytes);
  factor = number 4 12 bytes;
  spill = number 4 16 bytes;
  arena = number 8 24 bytes;
  arena_words = number 8 32 bytes;
}

-- what a file without a table means
abbrev pub no_entries : Entries
no_entries = record { rows = []; factor = 1; spill = 0; arena = 0; arena_words = 0 }

-- the table begins with its name and its version, and has as many rows as it says
abbrev pub has_form : List ℕ → Bool
has_form bytes = starts_with nat_eq bytes (codes "SMLE") && (number 4 4 bytes == 1) && (number 4 20 bytes == 0) && (length bytes == 40 + 24 * number 4 8 bytes)

abbrev pub has_kinds : List ℕ → Bool
has_kinds bytes = list_all (λ n. nat_lt n 5) (table kind_number 24 (number 4 8 bytes) (drop 40 bytes))

-- the labels are from, from + 1 and so on
abbrev pub are_numbered : ℕ → List EntryRow → Bool
are_numbered from [] = true
are_numbered from (r ∷ rs) = (r.label.0 == from) && are_numbered (suc from) rs

abbrev pub address_of : EntryRow → ℕ
address_of r = r.address

-- no number stands twice
abbrev pub are_distinct : List ℕ → Bool
are_distinct [] = true
are_distinct (x ∷ xs) = not (list_any (nat_eq x) xs) && are_distinct xs

-- words from an address on lie in a segment that may be written
abbrev pub has_words : ℕ → ℕ → Segment → Bool
has_words at words s = ((s.flags / 2) % 2 == 1) && nat_le s.address at && nat_le (at + 8 * words) (s.address + s.size)

-- the same as a fact
abbrev pub HoldsWords : ℕ → ℕ → Segment → Type 0
HoldsWords at words s = ((s.flags / 2) % 2 ≡ 1) × (s.address ≤ at) × (at + 8 * words ≤ s.address + s.size)

abbrev pub has_arena : List Segment → Entries → Bool
has_arena segments e = (e.arena_words == 0) || ((e.arena % 8 == 0) && list_any (has_words e.arena e.arena_words) segments)

abbrev pub is_right : List Segment → List ℕ → Bool
is_right segments bytes =
    has_form bytes && has_kinds bytes
    && are_numbered 0 (entries_in bytes).rows
    && are_distinct (map address_of (entries_in bytes).rows)
    && has_arena segments (entries_in bytes)

-- the row's label is its place
abbrev pub HasLabel : List EntryRow → ℕ → Type 0
HasLabel rows i = (d : EntryRow) → (slice_index_or rows i d).label.0 ≡ i

abbrev pub HaveOtherAddresses : EntryRow → EntryRow → Type 0
HaveOtherAddresses r s = r.address ≢ s.address

-- the entries can stand in a table: they fit its count, their labels are 0, 1, 2 and so on, their addresses differ, and the arena is empty,
-- or begins at a multiple of 8 and lies in a segment that may be written
pub record IsRightTable (segments : List Segment) (e : Entries) : Type 0 where
  pub count : length e.rows < 2 ^ 32
  pub labels : (i : ℕ) → i < length e.rows → HasLabel e.rows i
  pub addresses : AllPairs HaveOtherAddresses e.rows
  pub arena : (e.arena_words ≡ 0) ⊎ ((e.arena % 8 ≡ 0) × Any (HoldsWords e.arena e.arena_words) segments)
