-- Where routines stand and what they use: a save area of the first 8,192 bytes of the segment, and the arena's end in x9.
use Rattle.std.specs.Prelude.{ℕ, ◌+◌, ◌-◌, ◌*◌, ◌<◌, ◌≤◌}
use Rattle.rv_acts.specs.Emitted.{Emitted, base, IsQuiet}

-- the save area, 4,128 bytes behind the segment's beginning
abbrev pub save_at : Emitted → ℕ
save_at I = I.entries.arena - 4064

-- the arena's end
abbrev pub end_at : Emitted → ℕ
end_at I = I.entries.arena + 8 * I.entries.arena_words

-- text, literals and segment are within the reach of one pair
pub record IsNear (I : Emitted) : Type 0 where
  pub near : I.entries.arena + 8 * I.entries.arena_words < base + 2147479552
  pub above : 16384 ≤ I.entries.arena

-- no entry is among n places from p on
abbrev pub IsClear : Emitted → ℕ → ℕ → Type 0
IsClear I p n = (k : ℕ) → p ≤ k → k < p + n → IsQuiet I k
