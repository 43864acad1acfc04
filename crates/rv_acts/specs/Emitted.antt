-- A program in memory: its instructions, its data that are only read, and its arena.
use Rattle.std.specs.Prelude.{◌≡◌, ℕ, ◌+◌, ◌-◌, ◌*◌, ◌%◌, ◌^◌, ◌<◌, ◌≤◌, ◌⊎◌, nat_lt, if◌then◌else◌, List, [], ◌∷◌, length, Some, None, slice_get}
use Rattle.rv_isa.specs.declared.word.Ins.{Ins}
use Rattle.rv_isa.specs.Word.{Fits}
use Rattle.elf_static.specs.declared.image.Entries.{Entries}
use Rattle.rv_machine.specs.declared.hart.Area.{Area}
use Rattle.rv_run.specs.Run.{row_at}

-- Instructions, the address of the data that are only read, and these, and the table with the arena.
pub record Emitted : Type 0 where
  pub code : List Ins
  pub place : ℕ
  pub literals : List ℕ
  pub entries : Entries

-- the address of the first instruction
abbrev pub base : ℕ
base = 65536

abbrev pub area : ℕ → ℕ → ℕ → Area
area a n f = record { address = a; size = n; flags = f }

-- text, data that are only read, and the segment that may be written, which begins 8,192 bytes before the arena
abbrev pub areas_of : Emitted → List Area
areas_of I = area base (4 * length I.code) 5 ∷ area I.place (length I.literals) 4 ∷ area (I.entries.arena - 8192) (8192 + 8 * I.entries.arena_words) 6 ∷ []

-- they stand in this order and apart, and all instructions have a word
pub record IsLaid (I : Emitted) : Type 0 where
  pub text : base + 4 * length I.code ≤ I.place
  pub above : I.place + length I.literals + 8192 ≤ I.entries.arena
  pub aligned : I.entries.arena % 8 ≡ 0
  pub high : I.entries.arena + 8 * I.entries.arena_words < 2 ^ 63
  pub fits : (n : ℕ) (i : Ins) → slice_get I.code n ≡ Some i → Fits i

-- n bytes from an address on may be written, or read: they lie in the segment, or among the data
abbrev pub CanWrite : Emitted → ℕ → ℕ → Type 0
CanWrite I x n = (I.entries.arena - 8192 ≤ x) × (x + n ≤ I.entries.arena + 8 * I.entries.arena_words)

abbrev pub CanRead : Emitted → ℕ → ℕ → Type 0
CanRead I x n = ((I.place ≤ x) × (x + n ≤ I.place + length I.literals)) ⊎ CanWrite I x n

-- where they stand among the machine's bytes: T instructions, L bytes of data at R, an arena at D
abbrev pub spot4 : ℕ → ℕ → ℕ → ℕ → ℕ → ℕ
spot4 T D R L x = if nat_lt x (D - 8192) then 4 * T + (x - R) else 4 * T + L + (x - (D - 8192))

abbrev pub spot_at : Emitted → ℕ → ℕ
spot_at I x = spot4 (length I.code) I.entries.arena I.place (length I.literals) x

-- no entry of the table is at instruction n
abbrev pub IsQuiet : Emitted → ℕ → Type 0
IsQuiet I n = row_at I.entries.rows (base + 4 * n) ≡ None
