-- Items by the formats of their instructions, and the registers.
use Rattle.std.specs.Prelude.{ℕ, ℤ, pos, ◌+◌, ◌==◌, cond, false, Bool, nat_lt, List, [], ◌∷◌, Option, Some, None}
use Rattle.rv_isa.specs.declared.table.Op.{Op}
use Rattle.rv_isa.specs.declared.table.Op.TheVariants.{Addi}
use Rattle.rv_isa.specs.Word.{ins}
use Rattle.rv_asm.specs.declared.item.Item.{Item}
use Rattle.rv_asm.specs.declared.item.Item.TheVariants as item

-- ---- Formats

abbrev pub r_item : Op → (rd a b : ℕ) → Item
r_item op rd a b = item.Plain (ins op rd a b (pos 0))

abbrev pub i_item : Op → (rd a : ℕ) → ℤ → Item
i_item op rd a z = item.Plain (ins op rd a 0 z)

-- a store to a base, or a branch
abbrev pub s_item : Op → (a b : ℕ) → ℤ → Item
s_item op a b z = item.Plain (ins op 0 a b z)

abbrev pub u_item : Op → (rd : ℕ) → ℤ → Item
u_item op rd z = item.Plain (ins op rd 0 0 z)

-- ---- Registers

-- x0 is 0, and what is put there is gone
abbrev pub nothing : ℕ
nothing = 0

-- the spill record of the body
abbrev pub frame : ℕ
frame = 2

-- the next free byte of the arena, and the arena's end
abbrev pub free : ℕ
free = 8

abbrev pub limit : ℕ
limit = 9

-- the handler
abbrev pub handler : ℕ
handler = 18

-- the values of a body by number: all of x10 to x30 but the handler
abbrev pub value_register : ℕ → ℕ
value_register k = cond (nat_lt k 8) (10 + k) (cond (nat_lt k 20) (11 + k) nothing)

-- and where the value of one has been saved in x5, while the arguments of a call are moved
abbrev pub is_saved : Option ℕ → ℕ → Bool
is_saved None k = false
is_saved (Some j) k = j == k

abbrev pub register_in : Option ℕ → ℕ → ℕ
register_in saved k = cond (is_saved saved k) 5 (value_register k)

abbrev pub moved : (rd a : ℕ) → List Item
moved rd a = cond (rd == a) [] (i_item Addi rd a (pos 0) ∷ [])
