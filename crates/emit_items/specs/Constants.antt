-- How a register gets a number.
use Rattle.std.specs.Prelude.{ℕ, zero, suc, ◌+◌, ◌-◌, ◌*◌, ◌/◌, ◌%◌, ◌^◌, ◌==◌, ◌||◌, ℤ, pos, Bool, cond, nat_lt, nat_le, List, [], ◌∷◌, ◌++◌}
use Rattle.std.specs.Int.{w64, cast_unsigned}
use Rattle.rv_isa.specs.declared.table.Op.TheVariants.{Addi, Lui, Slli}
use Rattle.rv_isa.specs.Word.{signed}
use Rattle.rv_asm.specs.declared.item.Item.{Item}
use Rattle.emit_items.specs.Items.{i_item, u_item}

-- A number of 64 bits is 4,096 times an upper part and a lower part of -2,048 to 2,047.
abbrev pub lower : ℕ → ℤ
lower v = signed 2048 (v % 4096)

abbrev pub upper : ℕ → ℕ
upper v = (v + 2048) / 4096

-- 4,096 times the upper part, as the immediate of an instruction that has 32 bits
abbrev pub upper_immediate : ℕ → ℤ
upper_immediate v = signed 2147483648 (upper v * 4096 % 4294967296)

-- -2,048 to 2,047
abbrev pub is_short : ℕ → Bool
is_short v = nat_lt v 2048 || nat_le (2 ^ 64 - 2048) v

-- what 4,096 times an upper part of 20 bits reaches
abbrev pub is_medium : ℕ → Bool
is_medium v = nat_lt v (2 ^ 31 - 2048) || nat_le (2 ^ 64 - 2 ^ 31 - 2048) v

abbrev pub lower_added : ℕ → ℕ → List Item
lower_added rd v = cond (v % 4096 == 0) [] (i_item Addi rd rd (lower v) ∷ [])

abbrev pub medium_loaded : ℕ → ℕ → List Item
medium_loaded rd v = u_item Lui rd (upper_immediate v) ∷ lower_added rd v

-- the upper part first, in as many steps
abbrev pub long_loaded : ℕ → ℕ → ℕ → List Item
long_loaded zero rd v = medium_loaded rd v
long_loaded (suc n) rd v = cond (is_medium v) (medium_loaded rd v) (long_loaded n rd (upper v) ++ i_item Slli rd rd (pos 12) ∷ lower_added rd v)

-- the register becomes the number
abbrev pub loaded : ℕ → ℕ → List Item
loaded rd v = cond (is_short v) (i_item Addi rd 0 (lower v) ∷ []) (long_loaded 3 rd v)

-- the word that stands for a scalar
abbrev pub scalar : ℤ → ℕ
scalar z = (2 * cast_unsigned w64 z + 1) % 2 ^ 64
