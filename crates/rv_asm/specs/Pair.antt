-- A distance of less than 2 ^ 31 bytes as the immediates of two instructions: AUIPC adds a multiple of 4,096 to its
-- own address, and the instruction behind it adds -2,048 to 2,047 to that.
use Rattle.std.specs.Prelude.{ℕ, ◌+◌, ◌-◌, ◌*◌, ◌/◌, ◌%◌, ◌^◌, ℤ, pos, ◌-ℤ◌}
use Rattle.std.specs.Int.{w64, cast_unsigned}

-- the bytes from the m-th instruction to the n-th, and 2 ^ 31 + 2 ^ 11 more
abbrev pub raised : ℕ → ℕ → ℕ
raised m n = 4 * n + (2 ^ 31 + 2 ^ 11) - 4 * m

-- the multiple of 4,096 that is nearest to the distance
abbrev pub upper : ℕ → ℕ → ℤ
upper m n = pos (raised m n / 4096 * 4096) -ℤ pos (2 ^ 31)

-- what is left
abbrev pub lower : ℕ → ℕ → ℤ
lower m n = pos (raised m n % 4096) -ℤ pos (2 ^ 11)

-- the sum that the second instruction makes, where the first stands at address a
abbrev pub arrives : ℕ → ℤ → ℤ → ℕ
arrives a u v = ((a + cast_unsigned w64 u) % 2 ^ 64 + cast_unsigned w64 v) % 2 ^ 64
