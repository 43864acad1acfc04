-- Laws of acts and trips.
use Rattle.std.specs.Prelude.{◌≡◌, ℕ, ◌<◌, List, Some, None}
use Rattle.smlc_base.specs.declared.point.Point.{Point}
use Rattle.elf_static.specs.declared.image.Entries.{Entries}
use Rattle.simulation.specs.Blocks.{Block}
use Rattle.simulation.specs.Runs.{visible}
use Rattle.simulation.specs.Machines.{state_at, end_of, SteadyAt}
use Rattle.rv_run.specs.Seen.{memory_of}
use Rattle.rv_run.specs.Run.{Spot, risc, exit_end}
use Rattle.rv_acts.specs.Emitted.{Emitted}
use Rattle.rv_acts.specs.Fine.{Fine, Shown}
use Rattle.rv_acts.specs.Trip.{Steady}

-- one step of the machine leads to what is so
pub record Done (I : Emitted) (b : Fine) (s : Spot) : Type 0 where
  pub to : Spot
  pub step : (risc I.entries).step s ≡ Some to
  pub shown : Shown I b to

-- n steps lead there, past no entry
pub record TripDone (I : Emitted) (n : ℕ) (c : Fine) (s : Spot) : Type 0 where
  pub to : Spot
  pub there : state_at (risc I.entries) s n ≡ to
  pub shown : Shown I c to
  pub quiet : (k : ℕ) → k < n → (risc I.entries).pass (state_at (risc I.entries) s k) ≡ None

-- the machine has exited with n
pub record Exits (I : Emitted) (n : ℕ) (s : Spot) : Type 0 where
  pub step : (risc I.entries).step s ≡ None
  pub end : (risc I.entries).end s ≡ exit_end I.entries s.world.state n s.world.err

-- ---- two machines

-- both do as many steps, and nothing else is written on the way
pub data Lock (table : Entries) : Spot → Spot → Spot → Spot → Type 0 where
  here : (s t : Spot) → Lock table s t s t
  both : (s t s' t' u v : Spot) → (risc table).step s ≡ Some s' → (risc table).step t ≡ Some t' → t.world.out ≡ s.world.out → t.world.err ≡ s.world.err → Lock table s' t' u v → Lock table s t u v

-- two machines of which the same is known go in lockstep
pub record BothShown (I : Emitted) (c : Fine) (s t : Spot) : Type 0 where
  pub to_s : Spot
  pub to_t : Spot
  pub lock : Lock I.entries s t to_s to_t
  pub one : Shown I c to_s
  pub other : Shown I c to_t

-- the same is seen of both
pub record Alike (table : Entries) (s t : Spot) : Type 0 where
  pub out : t.world.out ≡ s.world.out
  pub err : t.world.err ≡ s.world.err
  pub end : end_of ((risc table).step t) ((risc table).end t) ≡ end_of ((risc table).step s) ((risc table).end s)

-- after n steps of each
abbrev pub AlikeAt : Entries → ℕ → Spot → Spot → Type 0
AlikeAt table n s t = Alike table (state_at (risc table) s n) (state_at (risc table) t n)

-- both have ended
pub record Ended (table : Entries) (s t : Spot) : Type 0 where
  pub stop_s : (risc table).step s ≡ None
  pub stop_t : (risc table).step t ≡ None
  pub alike : Alike table s t

-- what two machines do next: they end alike, or come after as many steps, one at least, to these two
pub data Meets (table : Entries) (s t u v : Spot) : Type 0 where
  end_both : (x y : Spot) → Lock table s t x y → Ended table x y → Meets table s t u v
  go_both : (s' t' : Spot) → (risc table).step s ≡ Some s' → (risc table).step t ≡ Some t' → t.world.out ≡ s.world.out → t.world.err ≡ s.world.err → Lock table s' t' u v → Meets table s t u v

-- ---- what is seen of the arena

-- blocks that are seen where H holds, which what is steady keeps
pub record Watches (I : Emitted) (seen : List Block) (H : Fine → Type 0) : Type 0 where
  pub keep : (a b : Fine) → Steady I a b → H a → H b
  pub sees : (a : Fine) (s : Spot) → Shown I a s → H a → memory_of I.entries s.world.state ≡ seen

-- up to step n nothing is passed, and no output and no block is taken back
pub record TripWalked (I : Emitted) (labels : List Point) (n : ℕ) (c : Fine) (s : Spot) : Type 0 where
  pub done : TripDone I n c s
  pub calm : (k : ℕ) → k < n → (visible labels ((risc I.entries).pass (state_at (risc I.entries) s k)) ≡ None) × SteadyAt (risc I.entries) (state_at (risc I.entries) s k)
