-- What GNU as and ld write for distances, counted in instructions from one place to another: a multiple of 4,096, and what is left.
use Rattle.std.proofs.Common.{◌≡◌, ℕ, ℤ, pos, ◌-ℤ◌, refl}
use Rattle.rv_asm.specs.Pair.{upper, lower}

abbrev Writes : ℕ → ℕ → ℤ → ℤ → Type 0
Writes here there u l = (upper here there ≡ u) × (lower here there ≡ l)

-- a number below 0
abbrev less : ℕ → ℤ
less n = pos 0 -ℤ pos n

as_near : Writes 0 511 (pos 0) (pos 2044)
as_near = (refl, refl)

past_the_half : Writes 0 512 (pos 4096) (less 2048)
past_the_half = (refl, refl)

half_back : Writes 512 0 (pos 0) (less 2048)
half_back = (refl, refl)

past_half_back : Writes 513 0 (less 4096) (pos 2044)
past_half_back = (refl, refl)

one_whole : Writes 0 1024 (pos 4096) (pos 0)
one_whole = (refl, refl)

next_half : Writes 0 1536 (pos 8192) (less 2048)
next_half = (refl, refl)

farthest : Writes 0 536869887 (pos 2147479552) (less 4)
farthest = (refl, refl)

farthest_back : Writes 536869887 0 (less 2147479552) (pos 4)
farthest_back = (refl, refl)
