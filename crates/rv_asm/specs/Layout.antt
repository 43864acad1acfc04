-- A program as bytes at an address.
use Rattle.std.specs.Prelude.{ℕ, ◌+◌, ◌*◌, ◌/◌, ◌≤◌, ◌≡◌, ℤ, List, [], ◌∷◌, ◌++◌, Option, Some, None, map, take, length, slice_get, slice_range}
use Rattle.std.specs.Int.{w32, to_le_bytes, from_le_bytes}
use Rattle.rv_isa.specs.declared.word.Ins.{Ins}
use Rattle.rv_isa.specs.declared.table.Op.TheVariants.{Auipc, Jalr, Addi}
use Rattle.rv_isa.specs.Word.{ins, word_of, decoded}
use Rattle.rv_asm.specs.declared.code.Code.{Code}
use Rattle.rv_asm.specs.declared.item.Item.{Item}
use Rattle.rv_asm.specs.declared.item.Item.TheVariants.{Plain, Jump, Address}
use Rattle.rv_asm.specs.Item.{size, words}
use Rattle.rv_asm.specs.Pair.{upper, lower, arrives}
use Rattle.rv_asm.specs.Program.{Program}

-- ---- the instructions

-- the place of a label, counted in instructions; every label is bound where a program is laid out
abbrev pub place_in : Option (Option ℕ) → ℕ
place_in (Some (Some n)) = n
place_in (Some None) = 0
place_in None = 0

abbrev pub place_of : List (Option ℕ) → ℕ → ℕ
place_of places label = place_in (slice_get places label)

-- the instructions of an item, where so many stand before it
abbrev pub code_at : List (Option ℕ) → ℕ → Item → List Ins
code_at places here (Plain i) = i ∷ []
code_at places here (Jump label) = ins Auipc 31 0 0 (upper here (place_of places label)) ∷ ins Jalr 0 31 0 (lower here (place_of places label)) ∷ []
code_at places here (Address rd label) = ins Auipc rd 0 0 (upper here (place_of places label)) ∷ ins Addi rd rd 0 (lower here (place_of places label)) ∷ []

-- the instructions of items, where so many stand before the first
abbrev pub code_from : List (Option ℕ) → ℕ → List Item → List Ins
code_from places here [] = []
code_from places here (item ∷ items) = code_at places here item ++ code_from places (here + size item) items

-- the instructions of a program
abbrev pub code_of : Program → List Ins
code_of p = code_from p.places 0 p.items

-- four bytes for each instruction, the lowest byte first
abbrev pub bytes_of : List Ins → List ℕ
bytes_of [] = []
bytes_of (i ∷ is) = to_le_bytes w32 (word_of i) ++ bytes_of is

-- ---- the addresses

-- the address of a label; every label is bound where a program is laid out
abbrev pub address : ℕ → Option ℕ → ℕ
address base (Some n) = base + 4 * n
address base None = base

-- the address of each label
abbrev pub addresses : ℕ → List (Option ℕ) → List ℕ
addresses base places = map (address base) places

-- ---- what the bytes do

-- behind n instructions stands this one: the word there decodes to it
pub record Holds (code : Code) (n : ℕ) (i : Ins) : Type 0 where
  pub within : 4 * n + 4 ≤ length code.bytes
  pub decodes : decoded (from_le_bytes w32 (slice_range code.bytes (4 * n) (4 * n + 4))) ≡ Some i

-- behind n instructions stands the item: an instruction is there, AUIPC and JALR arrive at the label of a jump, and
-- AUIPC and ADDI at the label of an address. JALR clears the lowest bit of where it arrives.
abbrev pub Stands : ℕ → Code → ℕ → Item → Type 0
Stands base code n (Plain i) = Holds code n i
Stands base code n (Jump label) = (u : ℤ) × (v : ℤ) × Holds code n (ins Auipc 31 0 0 u) × Holds code (n + 1) (ins Jalr 0 31 0 v) × (slice_get code.at label ≡ Some (arrives (base + 4 * n) u v / 2 * 2))
Stands base code n (Address rd label) = (u : ℤ) × (v : ℤ) × Holds code n (ins Auipc rd 0 0 u) × Holds code (n + 1) (ins Addi rd rd 0 v) × (slice_get code.at label ≡ Some (arrives (base + 4 * n) u v))

-- every item stands behind the instructions of those before it
abbrev pub AllStand : ℕ → Code → List Item → Type 0
AllStand base code items = (k : ℕ) (item : Item) → slice_get items k ≡ Some item → Stands base code (words (take k items)) item
