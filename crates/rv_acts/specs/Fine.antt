-- What is known of a machine that runs a program: registers, the place in the text, bytes by address, and the outside.
-- A register of 2 ^ 64 or more, and a byte of 256 or more, isn't known.
use Rattle.std.specs.Prelude.{◌≡◌, ℕ, ◌+◌, ◌-◌, ◌*◌, ◌^◌, ◌<◌, ◌==◌, ◌&&◌, nat_lt, nat_le, if◌then◌else◌, cond, List, length, get_or, Option, Some, slice_get, slice_range}
use Rattle.std.specs.Int.{w32, from_le_bytes}
use Rattle.rv_isa.specs.declared.word.Ins.{Ins}
use Rattle.rv_isa.specs.Word.{word_of}
use Rattle.rv_machine.specs.State.{reg}
use Rattle.rv_machine.specs.Run.{Cut}
use Rattle.rv_run.specs.Run.{Spot}
use Rattle.rv_acts.specs.Emitted.{Emitted, base, areas_of, CanRead, spot_at}

abbrev pub IsKnown : ℕ → Type 0
IsKnown v = v < 2 ^ 64

-- n bytes from x on are known
abbrev pub AllKnown : (ℕ → ℕ) → ℕ → ℕ → Type 0
AllKnown m x n = (i : ℕ) → i < n → m (x + i) < 256

-- f, but v at a
abbrev pub with_value : (ℕ → ℕ) → ℕ → ℕ → ℕ → ℕ
with_value f a v b = cond (b == a) v (f b)

-- bytes with new ones from x on
abbrev pub with_bytes : (ℕ → ℕ) → ℕ → List ℕ → ℕ → ℕ
with_bytes m x new y = if nat_le x y && nat_lt y (x + length new) then get_or new (y - x) 0 else m y

pub record Fine : Type 0 where
  pub regs : ℕ → ℕ
  -- the number of the next instruction
  pub at : ℕ
  pub byte : ℕ → ℕ
  pub input : Option (List ℕ)
  pub out : List ℕ
  pub err : List ℕ
  pub cuts : List Cut

-- it is so of this machine
pub record Shown (I : Emitted) (a : Fine) (s : Spot) : Type 0 where
  pub regs : (n : ℕ) → n < 32 → IsKnown (a.regs n) → reg s.world.state n ≡ a.regs n
  pub many : length s.world.state.regs ≡ 32
  pub pc : s.world.state.pc ≡ base + 4 * a.at
  pub areas : s.world.state.areas ≡ areas_of I
  pub size : length s.world.state.bytes ≡ 4 * length I.code + length I.literals + 8192 + 8 * I.entries.arena_words
  pub text : (n : ℕ) (i : Ins) → slice_get I.code n ≡ Some i → from_le_bytes w32 (slice_range s.world.state.bytes (4 * n) (4 * n + 4)) ≡ word_of i
  pub byte : (x : ℕ) → CanRead I x 1 → a.byte x < 256 → get_or s.world.state.bytes (spot_at I x) 0 ≡ a.byte x
  pub input : s.world.input ≡ a.input
  pub out : s.world.out ≡ a.out
  pub err : s.world.err ≡ a.err
  pub cuts : s.cuts ≡ a.cuts
