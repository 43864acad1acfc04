-- the rules that each row of the table keeps, computed for each mnemonic
use Rattle.std.proofs.Common.{◌≡◌, ℕ, ◌*◌, ◌/◌, ◌%◌, Some, refl}
use Rattle.rv_isa.specs.declared.table.Format.{Format}
use Rattle.rv_isa.specs.declared.table.Format.TheVariants.{R, I, S, B, U, J, Shift6, Shift5, Fixed}
use Rattle.rv_isa.specs.declared.table.Op.{Op}
use Rattle.rv_isa.specs.declared.table.Op.TheVariants.{Lui}
use Rattle.rv_isa.specs.declared.table.Shape.{Shape}
use Rattle.rv_isa.specs.Table.{shape_of, key, op_at}
use Rattle.rv_isa.specs.Word.{kind_at, refined, key_opcode, key_funct3, key_funct7}

-- a key, put together from the parts that the format uses
abbrev pub remade : Format → ℕ → ℕ
remade R k = key (key_funct7 k) (key_funct3 k) (key_opcode k)
remade I k = key 0 (key_funct3 k) (key_opcode k)
remade S k = key 0 (key_funct3 k) (key_opcode k)
remade B k = key 0 (key_funct3 k) (key_opcode k)
remade U k = key 0 0 (key_opcode k)
remade J k = key 0 0 (key_opcode k)
remade Shift6 k = key (key_funct7 k / 2 * 2) (key_funct3 k) (key_opcode k)
remade Shift5 k = key (key_funct7 k) (key_funct3 k) (key_opcode k)
remade Fixed k = k % 4294967296

pub record IsRow (s : Shape) : Type 0 where
  pub formed : refined (kind_at (key_opcode s.key)) (key_funct3 s.key) ≡ s.format
  pub remade : remade s.format s.key ≡ s.key

pub row_kept : (op : Op) → IsRow (shape_of op)
unfolding shape_of kind_at
row_kept Lui = record { formed = refl; remade = refl }
row_kept _ = record { formed = refl; remade = refl }

-- the key of a mnemonic leads to it
pub op_at-key : (op : Op) → op_at (shape_of op).key ≡ Some op
unfolding shape_of op_at
op_at-key Lui = refl
op_at-key _ = refl
