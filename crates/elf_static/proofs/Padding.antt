-- How much padding takes.
use Rattle.std.proofs.Common.{ℕ, ◌+◌, ◌<◌, ◌≤◌, arith}
use Rattle.elf_static.specs.Layout.{round_up}

-- the next multiple is not below, and less than n above
pub above4096 : (k : ℕ) → (k ≤ round_up 4096 k) × (round_up 4096 k < k + 4096)
above4096 k = (omega arith, omega arith)

pub above8 : (k : ℕ) → (k ≤ round_up 8 k) × (round_up 8 k < k + 8)
above8 k = (omega arith, omega arith)
