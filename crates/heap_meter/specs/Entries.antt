-- The entries of a run, which of them are measured, and what is told of those.
use Rattle.std.specs.Prelude.{ℕ, zero, suc, ◌≡◌, ◌+◌, ◌*◌, ◌%◌, ◌<◌, ◌≤◌, ◌==◌, ◌↔◌, List, [], ◌∷◌, ◌++◌, length, map, filter, count_by, Option, Some, None}
use Rattle.elf_static.specs.declared.image.EntryRow.{EntryRow}
use Rattle.elf_static.specs.declared.image.Entries.{Entries}
use Rattle.rv_machine.specs.State.{State, reg}
use Rattle.rv_machine.specs.Run.{World, Cut, turn}
use Rattle.rv_run.specs.Run.{row_at, root_words}
use Rattle.rv_run.specs.Counted.{IsCount}
use Rattle.heap_probes.specs.declared.probe.Entry.{Entry}

-- the states before each of n instructions
abbrev pub passed : ℕ → World → List Cut → List State
passed zero w cuts = []
passed (suc n) w cuts = let t = turn w cuts in w.state ∷ passed n t.world t.cuts

-- An entry: its row, the state, its number in the run from 0, and how often its label was entered by then, with this time.
pub record Passage : Type 0 where
  pub row : EntryRow
  pub state : State
  pub number : ℕ
  pub nth : ℕ

abbrev pub label_of : Passage → ℕ
label_of p = p.row.label.0

-- how often the label stands in the list
abbrev pub times : ℕ → List ℕ → ℕ
times l ls = count_by (λ m. m == l) ls

-- the entry at this state, behind entries of these labels, if its pc is an address of the table
abbrev pub passage : List ℕ → State → Option EntryRow → List Passage
passage before s None = []
passage before s (Some row) = record { row = row; state = s; number = length before; nth = suc (times row.label.0 before) } ∷ []

-- the entries at these states, behind entries of these labels
abbrev pub entered : Entries → List ℕ → List State → List Passage
entered table before [] = []
entered table before (s ∷ ss) = let ps = passage before s (row_at table.rows s.pc) in ps ++ entered table (before ++ map label_of ps) ss

-- those whose number is a multiple of the stride
abbrev pub measured : ℕ → List Passage → List Passage
measured stride ps = filter (λ p. p.number % stride == 0) ps

-- so many words of the arena have addresses below x8
abbrev pub IsUsed : Entries → State → ℕ → Type 0
IsUsed table s n = (j : ℕ) → (j < n) ↔ ((j < table.arena_words) × (table.arena + 8 * j < reg s 8))

-- what is told of an entry: its words are those of the count from its root registers
pub record IsTold (table : Entries) (p : Passage) (e : Entry) : Type 0 where
  pub label : e.label ≡ p.row.label
  pub nth : e.nth ≡ p.nth
  pub blocks : ℕ
  pub words : IsCount table.arena table.arena_words p.state (root_words (Some p.row) p.state) e.words blocks
  pub used : IsUsed table p.state e.used

abbrev pub AreTold : Entries → List Passage → List Entry → Type 0
AreTold table [] [] = Unit {0}
AreTold table (p ∷ ps) (e ∷ es) = IsTold table p e × AreTold table ps es
AreTold table [] (e ∷ es) = ⊥
AreTold table (p ∷ ps) [] = ⊥

-- ---- the peak

abbrev pub AllBelow : ℕ → List Entry → Type 0
AllBelow n [] = Unit {0}
AllBelow n (e ∷ es) = (e.words < n) × AllBelow n es

-- the first entry with the greatest words: those before it have fewer, and those behind it no more
pub record IsPeak (told : List Entry) (best : Entry) : Type 0 where
  pub before : List Entry
  pub behind : List Entry
  pub split : told ≡ before ++ best ∷ behind
  pub fewer : AllBelow best.words before
  pub no_more : AllBelow (suc best.words) behind
