-- The instruction table, and the mnemonic of each key.
use Rattle.std.specs.Prelude.{ℕ, ◌+◌, ◌*◌, List, [], ◌∷◌, Option, Some, None, ◌==◌, if◌then◌else◌, map}
use Rattle.rv_isa.specs.declared.table.Format.{Format}
use Rattle.rv_isa.specs.declared.table.Format.TheVariants.{R, I, S, B, U, J, Shift6, Shift5, Fixed}
use Rattle.rv_isa.specs.declared.table.Shape.{Shape}
use Rattle.rv_isa.specs.declared.table.Op.{Op}
use Rattle.rv_isa.specs.declared.table.Op.TheVariants.{Lui, Auipc, Jal, Jalr, Beq, Bne, Blt, Bge, Bltu, Bgeu, Lb, Lh, Lw, Ld, Lbu, Lhu, Lwu, Sb, Sh, Sw, Sd, Addi, Slti, Sltiu, Xori, Ori, Andi, Slli, Srli, Srai, Add, Sub, Sll, Slt, Sltu, Xor, Srl, Sra, Or, And, Mul, Mulh, Mulhsu, Mulhu, Div, Divu, Rem, Remu, Addiw, Slliw, Srliw, Sraiw, Addw, Subw, Sllw, Srlw, Sraw, Mulw, Divw, Divuw, Remw, Remuw, Fence, Ecall, Ebreak}

abbrev pub row : Format → ℕ → Shape
row f k = record { format = f; key = k }

-- funct7, funct3 and opcode in their places of a word
abbrev pub key : ℕ → ℕ → ℕ → ℕ
key funct7 funct3 opcode = opcode + 4096 * funct3 + 33554432 * funct7

-- the table: the format, with funct7, funct3 and opcode, or the whole word
unfoldable pub shape_of : Op → Shape
shape_of Lui = row U (key 0 0 0x37)
shape_of Auipc = row U (key 0 0 0x17)
shape_of Jal = row J (key 0 0 0x6f)
shape_of Jalr = row I (key 0 0 0x67)
shape_of Beq = row B (key 0 0 0x63)
shape_of Bne = row B (key 0 1 0x63)
shape_of Blt = row B (key 0 4 0x63)
shape_of Bge = row B (key 0 5 0x63)
shape_of Bltu = row B (key 0 6 0x63)
shape_of Bgeu = row B (key 0 7 0x63)
shape_of Lb = row I (key 0 0 0x03)
shape_of Lh = row I (key 0 1 0x03)
shape_of Lw = row I (key 0 2 0x03)
shape_of Ld = row I (key 0 3 0x03)
shape_of Lbu = row I (key 0 4 0x03)
shape_of Lhu = row I (key 0 5 0x03)
shape_of Lwu = row I (key 0 6 0x03)
shape_of Sb = row S (key 0 0 0x23)
shape_of Sh = row S (key 0 1 0x23)
shape_of Sw = row S (key 0 2 0x23)
shape_of Sd = row S (key 0 3 0x23)
shape_of Addi = row I (key 0 0 0x13)
shape_of Slti = row I (key 0 2 0x13)
shape_of Sltiu = row I (key 0 3 0x13)
shape_of Xori = row I (key 0 4 0x13)
shape_of Ori = row I (key 0 6 0x13)
shape_of Andi = row I (key 0 7 0x13)
shape_of Slli = row Shift6 (key 0x00 1 0x13)
shape_of Srli = row Shift6 (key 0x00 5 0x13)
shape_of Srai = row Shift6 (key 0x20 5 0x13)
shape_of Add = row R (key 0x00 0 0x33)
shape_of Sub = row R (key 0x20 0 0x33)
shape_of Sll = row R (key 0x00 1 0x33)
shape_of Slt = row R (key 0x00 2 0x33)
shape_of Sltu = row R (key 0x00 3 0x33)
shape_of Xor = row R (key 0x00 4 0x33)
shape_of Srl = row R (key 0x00 5 0x33)
shape_of Sra = row R (key 0x20 5 0x33)
shape_of Or = row R (key 0x00 6 0x33)
shape_of And = row R (key 0x00 7 0x33)
shape_of Mul = row R (key 0x01 0 0x33)
shape_of Mulh = row R (key 0x01 1 0x33)
shape_of Mulhsu = row R (key 0x01 2 0x33)
shape_of Mulhu = row R (key 0x01 3 0x33)
shape_of Div = row R (key 0x01 4 0x33)
shape_of Divu = row R (key 0x01 5 0x33)
shape_of Rem = row R (key 0x01 6 0x33)
shape_of Remu = row R (key 0x01 7 0x33)
shape_of Addiw = row I (key 0 0 0x1b)
shape_of Slliw = row Shift5 (key 0x00 1 0x1b)
shape_of Srliw = row Shift5 (key 0x00 5 0x1b)
shape_of Sraiw = row Shift5 (key 0x20 5 0x1b)
shape_of Addw = row R (key 0x00 0 0x3b)
shape_of Subw = row R (key 0x20 0 0x3b)
shape_of Sllw = row R (key 0x00 1 0x3b)
shape_of Srlw = row R (key 0x00 5 0x3b)
shape_of Sraw = row R (key 0x20 5 0x3b)
shape_of Mulw = row R (key 0x01 0 0x3b)
shape_of Divw = row R (key 0x01 4 0x3b)
shape_of Divuw = row R (key 0x01 5 0x3b)
shape_of Remw = row R (key 0x01 6 0x3b)
shape_of Remuw = row R (key 0x01 7 0x3b)
shape_of Fence = row I (key 0 0 0x0f)
shape_of Ecall = row Fixed 0x00000073
shape_of Ebreak = row Fixed 0x00100073

-- the first entry with this key
abbrev pub pick : List (ℕ × Op) → ℕ → Option Op
pick [] k = None
pick (e ∷ es) k = if k == e.0 then Some e.1 else pick es k

abbrev pub ops : List Op
ops =
    Lui ∷
    Auipc ∷
    Jal ∷
    Jalr ∷
    Beq ∷
    Bne ∷
    Blt ∷
    Bge ∷
    Bltu ∷
    Bgeu ∷
    Lb ∷
    Lh ∷
    Lw ∷
    Ld ∷
    Lbu ∷
    Lhu ∷
    Lwu ∷
    Sb ∷
    Sh ∷
    Sw ∷
    Sd ∷
    Addi ∷
    Slti ∷
    Sltiu ∷
    Xori ∷
    Ori ∷
    Andi ∷
    Slli ∷
    Srli ∷
    Srai ∷
    Add ∷
    Sub ∷
    Sll ∷
    Slt ∷
    Sltu ∷
    Xor ∷
    Srl ∷
    Sra ∷
    Or ∷
    And ∷
    Mul ∷
    Mulh ∷
    Mulhsu ∷
    Mulhu ∷
    Div ∷
    Divu ∷
    Rem ∷
    Remu ∷
    Addiw ∷
    Slliw ∷
    Srliw ∷
    Sraiw ∷
    Addw ∷
    Subw ∷
    Sllw ∷
    Srlw ∷
    Sraw ∷
    Mulw ∷
    Divw ∷
    Divuw ∷
    Remw ∷
    Remuw ∷
    Fence ∷
    Ecall ∷
    Ebreak ∷
    []

-- each mnemonic under its key
abbrev pub entries : List (ℕ × Op)
entries = map (λ op. ((shape_of op).key, op)) ops

-- the mnemonic of a key
unfoldable pub op_at : ℕ → Option Op
op_at k = pick entries k
