-- The machine that runs an image, as a machine of passes: what is seen of it after each instruction.
use Rattle.std.specs.Prelude.{◌≡◌, ℕ, zero, suc, ◌+◌, ◌-◌, ◌/◌, ◌%◌, ◌&&◌, ◌==◌, nat_lt, if◌then◌else◌, List, [], ◌∷◌, ◌++◌, length, take, drop, map, codes, bytes_eq, Option, Some, None}
use Rattle.elf_static.specs.declared.image.EntryRow.{EntryRow}
use Rattle.elf_static.specs.declared.image.Entries.{Entries}
use Rattle.rv_machine.specs.State.{State, reg}
use Rattle.rv_machine.specs.Run.{World, Cut, Mend, Runs, Exited, Trapped, Turn, turn}
use Rattle.smlc_base.specs.declared.point.Point.{Point}
use Rattle.simulation.specs.Runs.{End, Going, Normal, Uncaught, Arena, Stuck}
use Rattle.simulation.specs.Machines.{Machine}
use Rattle.rv_run.specs.Seen.{all_pointed, used, memory_of}

-- a machine with its outside, and what the outside will answer
pub record Spot : Type 0 where
  pub world : World
  pub cuts : List Cut

abbrev pub turned_from : Spot → Turn
turned_from s = turn s.world s.cuts

abbrev pub spot_of : Turn → Spot
spot_of t = record { world = t.world; cuts = t.cuts }

abbrev pub goes_to : Mend → Spot → Option Spot
goes_to Runs s = Some s
goes_to _ s = None

-- ---- entries

-- the row of the table with this address
abbrev pub row_at : List EntryRow → ℕ → Option EntryRow
row_at [] pc = None
row_at (row ∷ rows) pc = if row.address == pc then Some row else row_at rows pc

abbrev pub point_of : Option EntryRow → Option Point
point_of None = None
point_of (Some row) = Some row.point

-- the registers whose bits are set, of n registers from xi on
abbrev pub registers_from : ℕ → ℕ → ℕ → List ℕ
registers_from i mask zero = []
registers_from i mask (suc n) = if mask % 2 == 1 then i ∷ registers_from (suc i) (mask / 2) n else registers_from (suc i) (mask / 2) n

-- what the root registers of a row hold
abbrev pub root_words : Option EntryRow → State → List ℕ
root_words None s = []
root_words (Some row) s = map (reg s) (registers_from 0 row.roots 32)

-- the words from which a count begins
abbrev pub roots_at : Entries → State → List ℕ
roots_at table s = root_words (row_at table.rows s.pc) s

-- ---- ends

-- the line that tells of an uncaught exception
abbrev pub line_of : List ℕ → List ℕ
line_of name = codes "uncaught exception " ++ name ++ 10 ∷ []

-- the name in such a line
abbrev pub name_in : List ℕ → List ℕ
name_in line = take (length line - 20) (drop 19 line)

abbrev pub uncaught_end : List ℕ → End
uncaught_end err = if bytes_eq err (line_of (name_in err)) then Uncaught (name_in err) else Stuck

-- the arena is full: x11 has the words that are used, and with those in x12 they are more than there are
abbrev pub full_end : Entries → State → End
full_end table s = if (reg s 11 == used table s) && nat_lt table.arena_words (used table s + reg s 12) then Arena else Stuck

abbrev pub exit_end : Entries → State → ℕ → List ℕ → End
exit_end table s n err = if n == 0 then Normal else if n == 1 then uncaught_end err else if n == 3 then full_end table s else Stuck

-- a trap, and any other exit, is no end
abbrev pub mend_end : Entries → State → Mend → List ℕ → End
mend_end table s Runs err = Going
mend_end table s (Exited n) err = exit_end table s n err
mend_end table s (Trapped pc word) err = Stuck

-- ---- the machine

abbrev pub risc : Entries → Machine Spot
risc table = record {
  step = λ s. let t = turned_from s in goes_to t.mend (spot_of t);
  out = λ s. s.world.out;
  end = λ s. mend_end table s.world.state (turned_from s).mend s.world.err;
  pass = λ s. point_of (row_at table.rows s.world.state.pc);
  memory = λ s. memory_of table s.world.state;
  roots = λ s. all_pointed table (roots_at table s.world.state);
}

-- an entry: the state is before an instruction that is done, and its pc is an address of the table
pub record IsEntry (table : Entries) (s : Spot) : Type 0 where
  pub row : EntryRow
  pub here : row_at table.rows s.world.state.pc ≡ Some row
  pub next : Spot
  pub done : (risc table).step s ≡ Some next
