-- The arena word by word, the registers, and how sources are read in them. An address is the number of a word.
use Rattle.std.specs.Prelude.{ℕ, zero, suc, ◌+◌, ◌==◌, pos, cond, List, [], ◌∷◌, ◌++◌, Option, Some, None, length, replicate, slice_get}
use Rattle.smlc_base.specs.declared.point.Point.{Point}
use Rattle.simulation.specs.Blocks as sim
use Rattle.sml_def.specs.Maybe.{◌>>=◌}
use Rattle.closure_ir.specs.Words.{Word, Num, At, Fixed, Code as CodeOf, Made, Cell, Cells, cell_length, follow, consed}
use Rattle.closure_ir.specs.Run.{all_pointed, view_cell}
use Rattle.placed_ir.specs.declared.home.Home.{Home}
use Rattle.placed_ir.specs.declared.home.Home.TheVariants as home
use Rattle.placed_ir.specs.declared.home.Source.{Source}
use Rattle.placed_ir.specs.declared.home.Source.TheVariants as source
use Rattle.placed_ir.specs.declared.home.Building.{Building}

-- ---- The arena

-- What stands at a word: the first word of a block or of a spill record, or a word inside one.
pub data Slot : Type 0 where
  Held : Cell → Slot
  Spilled : (words : List Word) → Slot
  Filler : Slot

abbrev pub cell_in : Option Slot → Option Cell
cell_in (Some (Held c)) = Some c
cell_in _ = None

-- the blocks by address
abbrev pub held_at : List Slot → Cells
held_at slots a = cell_in (slice_get slots a)

abbrev pub words_in : Option Slot → Option (List Word)
words_in (Some (Spilled ws)) = Some ws
words_in _ = None

abbrev pub fillers : ℕ → List Slot
fillers zero = []
fillers (suc n) = Filler ∷ fillers n

-- blocks one behind the other
abbrev pub slots_of : List Cell → List Slot
slots_of [] = []
slots_of (c ∷ cells) = Held c ∷ (fillers (cell_length c) ++ slots_of cells)

-- a spill record of n words behind its header
abbrev pub new_frame : ℕ → List Slot
new_frame n = Spilled (replicate n (Num (pos 0))) ∷ fillers n

abbrev pub view_slot : List Point → Slot → sim.Block
view_slot points (Held c) = view_cell points c
view_slot points (Spilled ws) = record { kind = sim.SpillRecord; words = suc (length ws); fields = all_pointed ws }
view_slot points Filler = record { kind = sim.Inside; words = 0; fields = [] }

-- Block k of a group begins so many words behind the group's first, where the blocks have these lengths behind their headers.
abbrev pub offset_in : List ℕ → ℕ → ℕ
offset_in [] k = 0
offset_in (n ∷ lengths) zero = 0
offset_in (n ∷ lengths) (suc k) = suc n + offset_in lengths k

-- ---- Registers

-- the registers of values by number, the base of the group that was made last, what a primitive has left in the scratch register, the address of
-- the body's spill record, and the handler
pub record Registers : Type 0 where
  pub file : ℕ → Option Word
  pub base : Option ℕ
  pub result : Option Word
  pub frame : Option ℕ
  pub handler : Word

-- at an entry the closure and the arguments stand in the first registers, and nothing in any other
abbrev pub arrived : List Word → Word → Registers
arrived ws h = record { file = slice_get ws; base = None; result = None; frame = None; handler = h }

-- the base and the scratch register are lost at each form but those that name blocks and take results
abbrev pub settled : Registers → Registers
settled r = record { file = r.file; base = None; result = None; frame = r.frame; handler = r.handler }

abbrev pub with_base : Registers → ℕ → Registers
with_base r a = record { file = r.file; base = Some a; result = None; frame = r.frame; handler = r.handler }

abbrev pub with_result : Registers → Word → Registers
with_result r w = record { file = r.file; base = None; result = Some w; frame = r.frame; handler = r.handler }

abbrev pub with_frame : Registers → ℕ → Registers
with_frame r a = record { file = r.file; base = None; result = None; frame = Some a; handler = r.handler }

abbrev pub with_handler : Registers → Word → Registers
with_handler r w = record { file = r.file; base = None; result = None; frame = r.frame; handler = w }

abbrev pub put_in : (ℕ → Option Word) → ℕ → Word → ℕ → Option Word
put_in file k w j = cond (j == k) (Some w) (file j)

abbrev pub with_register : Registers → ℕ → Word → Registers
with_register r k w = record { file = put_in r.file k w; base = r.base; result = r.result; frame = r.frame; handler = r.handler }

-- ---- Reading

-- the words of a spill record
abbrev pub frame_words : List Slot → Option ℕ → Option (List Word)
frame_words slots None = None
frame_words slots (Some a) = words_in (slice_get slots a)

abbrev pub word_in : Option (List Word) → ℕ → Option Word
word_in None i = None
word_in (Some ws) i = slice_get ws i

abbrev pub home_word : List Slot → Registers → Home → Option Word
home_word slots r (home.Register k) = r.file k
home_word slots r (home.Spill i) = word_in (frame_words slots r.frame) i

-- so many words behind the base
abbrev pub past : Option ℕ → ℕ → Option Word
past None n = None
past (Some a) n = Some (At (a + n))

-- where the group that is being made begins at the base
abbrev pub read : List Slot → Registers → Option ℕ → Source → Option Word
read slots r base (source.Along h steps) = follow (held_at slots) steps (home_word slots r h)
read slots r base (source.Fresh n) = past base n
read slots r base (source.Static s) = Some (Fixed s)
read slots r base (source.Code l) = Some (CodeOf l.0)
read slots r base (source.Literal n) = Some (Num n)

abbrev pub all_read : List Slot → Registers → Option ℕ → List Source → Option (List Word)
all_read slots r base [] = Some []
all_read slots r base (s ∷ sources) = consed (read slots r base s) (all_read slots r base sources)

abbrev pub built : List Slot → Registers → Option ℕ → Building → Option Cell
built slots r base b = all_read slots r base b.fields >>= (λ ws. Some (record { sort = Made b.shape; fields = ws }))

abbrev pub all_built : List Slot → Registers → Option ℕ → List Building → Option (List Cell)
all_built slots r base [] = Some []
all_built slots r base (b ∷ buildings) = consed (built slots r base b) (all_built slots r base buildings)
