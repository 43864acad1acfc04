-- Laws of the machine's run.
use Rattle.std.specs.Prelude.{◌≡◌, ◌≢◌, ℕ, suc, ◌+◌, ◌%◌, ◌<◌, ◌≤◌, List, Some}
use Rattle.elf_static.specs.declared.image.Entries.{Entries}
use Rattle.rv_machine.specs.State.{State, reg}
use Rattle.rv_machine.specs.Run.{World, Cut, Runs, Exited, behaviour}
use Rattle.simulation.specs.Blocks.{Block, Inside, StandsAt, Reach}
use Rattle.simulation.specs.Runs.{Going, Normal, Uncaught, Arena}
use Rattle.simulation.specs.Machines.{state_at}
use Rattle.simulation.specs.Words.{HasWords}
use Rattle.rv_run.specs.Heap.{heap_word}
use Rattle.rv_run.specs.Counted.{Reached, IsCount}
use Rattle.rv_run.specs.Seen.{all_pointed, used, memory_of}
use Rattle.rv_run.specs.Run.{Spot, risc, turned_from, line_of}

-- After n instructions the run has the behaviour's world, and what the next one does is what the behaviour does next.
pub record IsBehaviour (table : Entries) (world : World) (cuts : List Cut) (n : ℕ) : Type 0 where
  pub there : (state_at (risc table) (record { world = world; cuts = cuts }) n).world ≡ (behaviour n world cuts).world
  pub goes : (turned_from (state_at (risc table) (record { world = world; cuts = cuts }) n)).mend ≡ (behaviour (suc n) world cuts).mend

-- what an end says
pub record EndTells (table : Entries) (s : Spot) : Type 0 where
  pub going : (risc table).end s ≡ Going → (turned_from s).mend ≡ Runs
  pub normal : (risc table).end s ≡ Normal → (turned_from s).mend ≡ Exited 0
  pub uncaught : (name : List ℕ) → (risc table).end s ≡ Uncaught name → ((turned_from s).mend ≡ Exited 1) × (s.world.err ≡ line_of name)
  pub named : (name : List ℕ) → (turned_from s).mend ≡ Exited 1 → s.world.err ≡ line_of name → (risc table).end s ≡ Uncaught name
  pub full : (risc table).end s ≡ Arena → ((turned_from s).mend ≡ Exited 3) × (reg s.world.state 11 ≡ used table s.world.state) × (table.arena_words < used table s.world.state + reg s.world.state 12)

-- The words below the next free byte can be read, and what is reached from the roots are blocks that end below it.
pub record IsOrderly (table : Entries) (s : State) (roots : List ℕ) : Type 0 where
  pub aligned : table.arena % 8 ≡ 0
  pub room : used table s ≤ table.arena_words
  pub readable : (j : ℕ) → j < used table s → (w : ℕ) × (heap_word table.arena s j ≡ Some w)
  pub heads : (j : ℕ) → Reach (memory_of table s) (all_pointed table roots) j → (x : Block) × StandsAt (memory_of table s) j x × (x.kind ≢ Inside) × (j + x.words ≤ used table s)

-- what is counted is what is reached, and has as many words
pub record CountsReach (table : Entries) (s : State) (roots : List ℕ) : Type 0 where
  pub counted : (j : ℕ) → Reached table.arena table.arena_words s roots j → Reach (memory_of table s) (all_pointed table roots) j
  pub reached : (j : ℕ) → Reach (memory_of table s) (all_pointed table roots) j → Reached table.arena table.arena_words s roots j
  pub words : (n many : ℕ) → IsCount table.arena table.arena_words s roots n many → HasWords (memory_of table s) (all_pointed table roots) n
  pub counts : (n : ℕ) → HasWords (memory_of table s) (all_pointed table roots) n → (many : ℕ) × IsCount table.arena table.arena_words s roots n many
