-- The arena as a list of blocks, with an entry for each word below the next free byte.
use Rattle.std.specs.Prelude.{ℕ, zero, suc, ◌+◌, ◌-◌, ◌*◌, ◌/◌, ◌%◌, ◌&&◌, ◌==◌, nat_le, nat_lt, if◌then◌else◌, List, [], ◌∷◌, ◌++◌, take, Option, Some, None, slice_get, unwrap_or}
use Rattle.elf_static.specs.declared.image.EntryRow.{EntryRow}
use Rattle.elf_static.specs.declared.image.Entries.{Entries}
use Rattle.rv_machine.specs.State.{State, reg}
use Rattle.simulation.specs.Blocks.{Kind, Closure, Datum, ClassRecord, SpillRecord, Inside, Block}
use Rattle.rv_run.specs.Heap.{heap_word, kind_bits, tag_of, length_of, is_string, body_words}

-- f at n numbers from i on
abbrev pub listed_from : (ℕ → ℕ) → ℕ → ℕ → List ℕ
listed_from f i zero = []
listed_from f i (suc n) = f i ∷ listed_from f (suc i) n

-- a word that points into the arena, as the number of the word there
abbrev pub pointed : Entries → ℕ → List ℕ
pointed table v = if (v % 8 == 0) && nat_le table.arena v && nat_lt v (table.arena + 8 * table.arena_words) then (v - table.arena) / 8 ∷ [] else []

abbrev pub all_pointed : Entries → List ℕ → List ℕ
all_pointed table [] = []
all_pointed table (v ∷ vs) = pointed table v ++ all_pointed table vs

-- the label of a closure is the number of its row, and behind the labels come those of class records
abbrev pub labelled_kind : Option EntryRow → Kind
labelled_kind None = ClassRecord
labelled_kind (Some row) = Closure row.point

-- the tag of a spill record is the greatest
abbrev pub record_kind : List EntryRow → ℕ → Kind
record_kind rows tag = if tag == 536870911 then SpillRecord else labelled_kind (slice_get rows tag)

abbrev pub kind_of : List EntryRow → ℕ → Kind
kind_of rows h = if kind_bits h == 6 then record_kind rows (tag_of h) else Datum

-- the block with this header, and these words behind it
abbrev pub block_of : Entries → ℕ → List ℕ → Block
block_of table h ws = record {
  kind = kind_of table.rows h;
  words = suc (body_words h);
  fields = if is_string h then [] else all_pointed table (take (length_of h) ws);
}

-- a word within a block
abbrev pub inner : Block
inner = record { kind = Inside; words = 0; fields = [] }

-- Of the words of an arena, in which the first n belong to the block before: a block stands at its header.
abbrev pub blocks : Entries → ℕ → List ℕ → List Block
blocks table n [] = []
blocks table zero (h ∷ ws) = block_of table h ws ∷ blocks table (body_words h) ws
blocks table (suc n) (w ∷ ws) = inner ∷ blocks table n ws

-- the words below the next free byte, whose address is in x8
abbrev pub used : Entries → State → ℕ
used table s = (reg s 8 - table.arena) / 8

abbrev pub word_at : Entries → State → ℕ → ℕ
word_at table s j = unwrap_or (heap_word table.arena s j) 0

abbrev pub memory_of : Entries → State → List Block
memory_of table s = blocks table 0 (listed_from (word_at table s) 0 (used table s))
