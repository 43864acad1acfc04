-- The two immediates of a distance fit, and arrive where they should.
use Rattle.std.proofs.Common.{◌≡◌, ℕ, ◌+◌, ◌*◌, ◌%◌, ◌^◌, ◌≤◌, arith}
use Rattle.std.proofs.lemmas.Int.{ints}
use Rattle.rv_isa.specs.Word.{IsWithin, unsigned}
use Rattle.rv_asm.specs.Item.{IsNear}
use Rattle.rv_asm.specs.Pair.{upper, lower, arrives}

pub upper_within : (m n : ℕ) → IsNear n → IsWithin 2147483648 (upper m n)
upper_within m n q = grind (arith, ints)

pub upper_whole : (m n : ℕ) → IsNear n → unsigned 2147483648 (upper m n) % 4096 ≡ 0
upper_whole m n q = grind (arith, ints)

pub lower_within : (m n : ℕ) → IsWithin 2048 (lower m n)
lower_within m n = grind (arith, ints)

pub arrives_there : (base m n : ℕ) → base ≤ 2 ^ 63 → IsNear m → IsNear n → arrives (base + 4 * m) (upper m n) (lower m n) ≡ base + 4 * n
arrives_there base m n h p q = omega (arith, ints)
