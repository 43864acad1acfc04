-- What a load or a store moves.
use Rattle.std.specs.Prelude.{ℕ, ◌%◌, ◌^◌}
use Rattle.std.specs.Int.{Width, w8, w16, w32, w64}
use Rattle.rv_machine.specs.declared.memory.Size.{Size}
use Rattle.rv_machine.specs.declared.memory.Size.TheVariants.{Byte, Half, Word, Double}

abbrev pub width_of : Size → Width
width_of Byte = w8
width_of Half = w16
width_of Word = w32
width_of Double = w64

-- the part of a register that is stored
abbrev pub stored_part : Size → ℕ → ℕ
stored_part Byte b = b % 2 ^ 8
stored_part Half b = b % 2 ^ 16
stored_part Word b = b % 2 ^ 32
stored_part Double b = b
