-- Trips: acts one after another, with their number.
use Rattle.std.specs.Prelude.{◌≡◌, ℕ, suc, ◌+◌, ◌*◌, ◌-◌, ◌<◌, ◌≤◌, ◌⊎◌, List, length, Some, slice_get}
use Rattle.std.specs.Int.{w64, from_le_bytes}
use Rattle.rv_isa.specs.declared.word.Ins.{Ins}
use Rattle.rv_run.specs.Seen.{listed_from}
use Rattle.rv_acts.specs.Emitted.{Emitted}
use Rattle.rv_acts.specs.Fine.{AllKnown, Fine}
use Rattle.rv_acts.specs.Act.{Act}

-- data that are only read, or bytes of the arena below this address
abbrev pub IsLow : Emitted → ℕ → ℕ → Type 0
IsLow I top x = (x < I.entries.arena - 8192) ⊎ ((I.entries.arena ≤ x) × (x < top))

-- x0, x8, the data, and the bytes of the arena below x8 stay
pub record Steady (I : Emitted) (a b : Fine) : Type 0 where
  pub x0 : b.regs 0 ≡ a.regs 0
  pub x8 : b.regs 8 ≡ a.regs 8
  pub low : (x : ℕ) → IsLow I (a.regs 8) x → b.byte x ≡ a.byte x

-- n acts of the instructions that stand there, at places of which Q holds
pub data Trip (I : Emitted) (Q : ℕ → Type 0) : ℕ → Fine → Fine → Type 0 where
  stop : (a : Fine) → Trip I Q 0 a a
  move : (n : ℕ) (i : Ins) (a b c : Fine) → slice_get I.code a.at ≡ Some i → Q a.at → Act I i a b → Steady I a b → Trip I Q n b c → Trip I Q (suc n) a c

-- the word at x is w, and known
pub record WordIs (m : ℕ → ℕ) (x w : ℕ) : Type 0 where
  pub known : AllKnown m x 8
  pub is : from_le_bytes w64 (listed_from m x 8) ≡ w

-- the words of the arena below x8 are these
pub record Holds (I : Emitted) (ws : List ℕ) (a : Fine) : Type 0 where
  pub x8 : a.regs 8 ≡ I.entries.arena + 8 * length ws
  pub room : length ws ≤ I.entries.arena_words
  pub mem : (j w : ℕ) → slice_get ws j ≡ Some w → WordIs a.byte (I.entries.arena + 8 * j) w

-- anywhere in the text
abbrev pub Anywhere : ℕ → Type 0
Anywhere n = Unit {0}
