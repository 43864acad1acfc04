-- Trips towards a goal, and routes: trips on which blocks are made.
use Rattle.std.specs.Prelude.{◌≡◌, ℕ, suc, ◌+◌, ◌*◌, ◌<◌, ◌≤◌, Some, slice_get}
use Rattle.rv_isa.specs.declared.word.Ins.{Ins}
use Rattle.rv_acts.specs.Emitted.{Emitted}
use Rattle.rv_acts.specs.Fine.{Fine}
use Rattle.rv_acts.specs.Act.{Act}
use Rattle.rv_acts.specs.Trip.{IsLow, Trip}

-- at most so many acts lead to a state of which Goal holds
pub record Trips (I : Emitted) (Q : ℕ → Type 0) (Goal : Fine → Type 0) (most : ℕ) (a : Fine) : Type 0 where
  pub to : Fine
  pub count : ℕ
  pub few : count ≤ most
  pub trip : Trip I Q count a to
  pub goal : Goal to

-- x8 has moved by so many words, all of whose bytes are known, and what was below it stays
pub record Grows (I : Emitted) (a b : Fine) : Type 0 where
  pub words : ℕ
  pub x0 : b.regs 0 ≡ a.regs 0
  pub x8 : b.regs 8 ≡ a.regs 8 + 8 * words
  pub room : b.regs 8 ≤ I.entries.arena + 8 * I.entries.arena_words
  pub low : (x : ℕ) → IsLow I (a.regs 8) x → b.byte x ≡ a.byte x
  pub known : (x : ℕ) → a.regs 8 ≤ x → x < b.regs 8 → b.byte x < 256

-- n acts, on which blocks are made, each by one act that moves x8
pub data Route (I : Emitted) (Q : ℕ → Type 0) : ℕ → Fine → Fine → Type 0 where
  by_trip : (n : ℕ) (a b : Fine) → Trip I Q n a b → Route I Q n a b
  by_growth : (m n : ℕ) (i : Ins) (a b c d : Fine) → Trip I Q m a b → slice_get I.code b.at ≡ Some i → Q b.at → Act I i b c → Grows I b c → Route I Q n c d → Route I Q (m + suc n) a d

-- at most so many lead to a state of which Goal holds
pub record Routes (I : Emitted) (Q : ℕ → Type 0) (Goal : Fine → Type 0) (most : ℕ) (a : Fine) : Type 0 where
  pub to : Fine
  pub count : ℕ
  pub few : count ≤ most
  pub route : Route I Q count a to
  pub goal : Goal to
