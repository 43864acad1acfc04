-- Instructions as words, in the terms of the unprivileged manual, sections 2.2 and 2.3: a word is six fields,
-- and each format says where an instruction's operands lie in them.
use Rattle.std.specs.Prelude.{ℕ, ◌≡◌, ◌+◌, ◌-◌, ◌*◌, ◌/◌, ◌%◌, ◌<◌, suc, ℤ, pos, negsuc, List, [], ◌∷◌, Option, Some, None, ◌==◌, ◌||◌, nat_lt, if◌then◌else◌}
use Rattle.rv_isa.specs.declared.table.Format.{Format}
use Rattle.rv_isa.specs.declared.table.Format.TheVariants.{R, I, S, B, U, J, Shift6, Shift5, Fixed}
use Rattle.rv_isa.specs.declared.table.Op.{Op}
use Rattle.rv_isa.specs.declared.word.Ins.{Ins}
use Rattle.rv_isa.specs.declared.word.Fields.{Fields}
use Rattle.rv_isa.specs.Table.{shape_of, key, op_at}

-- ---- the six fields of a word

abbrev pub fields : ℕ → ℕ → ℕ → ℕ → ℕ → ℕ → Fields
fields a b c d e f = record { opcode = a; rd = b; funct3 = c; rs1 = d; rs2 = e; funct7 = f }

pub record IsBounded (f : Fields) : Type 0 where
  pub opcode : f.opcode < 128
  pub rd : f.rd < 32
  pub funct3 : f.funct3 < 8
  pub rs1 : f.rs1 < 32
  pub rs2 : f.rs2 < 32
  pub funct7 : f.funct7 < 128

-- the word with these fields: from the lowest bit up 7 bits of opcode, then 5, 3, 5, 5 and 7
abbrev pub joined : Fields → ℕ
joined f = f.opcode + 128 * f.rd + 4096 * f.funct3 + 32768 * f.rs1 + 1048576 * f.rs2 + 33554432 * f.funct7

-- the fields of a word
unfoldable pub parted : ℕ → Fields
parted w = fields (w % 128) (w / 128 % 32) (w / 4096 % 8) (w / 32768 % 32) (w / 1048576 % 32) (w / 33554432)

-- ---- the parts of a key, which is a word with every operand 0

abbrev pub key_opcode : ℕ → ℕ
key_opcode k = k % 128

abbrev pub key_funct3 : ℕ → ℕ
key_funct3 k = k / 4096 % 8

abbrev pub key_funct7 : ℕ → ℕ
key_funct7 k = k / 33554432 % 128

-- ---- two's complement, where there are 2 * h numbers

-- -h to h - 1
abbrev pub IsWithin : ℕ → ℤ → Type 0
IsWithin h (pos n) = n < h
IsWithin h (negsuc n) = n < h

-- 0 to m - 1
abbrev pub IsBelow : ℕ → ℤ → Type 0
IsBelow m (pos n) = n < m
IsBelow m (negsuc n) = ⊥

-- the bits of a number, as a number without sign
abbrev pub unsigned : ℕ → ℤ → ℕ
unsigned h (pos n) = n
unsigned h (negsuc n) = 2 * h - suc n

-- the number that has these bits
unfoldable pub signed : ℕ → ℕ → ℤ
signed h n = if nat_lt n h then pos n else negsuc (2 * h - suc n)

-- ---- from an instruction to its word

-- bits 4..1 and 11 of an immediate, as they lie in the rd of a branch and in the rs2 of a jump
abbrev pub odd_low : ℕ → ℕ
odd_low n = n / 2 % 16 * 2 + n / 2048 % 2

-- the fields of an instruction of a format, with the opcode, funct3 and funct7 of a key
abbrev pub laid : Format → ℕ → Ins → Fields
laid R k i = fields (key_opcode k) i.rd (key_funct3 k) i.rs1 i.rs2 (key_funct7 k)
laid I k i = let n = unsigned 2048 i.imm in fields (key_opcode k) i.rd (key_funct3 k) i.rs1 (n % 32) (n / 32)
laid S k i = let n = unsigned 2048 i.imm in fields (key_opcode k) (n % 32) (key_funct3 k) i.rs1 i.rs2 (n / 32)
laid B k i = let n = unsigned 4096 i.imm in fields (key_opcode k) (odd_low n) (key_funct3 k) i.rs1 i.rs2 (n / 4096 * 64 + n / 32 % 64)
laid U k i = let n = unsigned 2147483648 i.imm / 4096 in fields (key_opcode k) i.rd (n % 8) (n / 8 % 32) (n / 256 % 32) (n / 8192)
laid J k i = let n = unsigned 1048576 i.imm in fields (key_opcode k) i.rd (n / 4096 % 8) (n / 32768 % 32) (odd_low n) (n / 1048576 * 64 + n / 32 % 64)
laid Shift6 k i = let n = unsigned 64 i.imm in fields (key_opcode k) i.rd (key_funct3 k) i.rs1 (n % 32) (key_funct7 k + n / 32)
laid Shift5 k i = fields (key_opcode k) i.rd (key_funct3 k) i.rs1 (unsigned 32 i.imm) (key_funct7 k)
laid Fixed k i = parted k

-- the operands that an instruction of a format may have; those that the format lacks are 0
abbrev pub FitsAs : Format → Ins → Type 0
FitsAs R i = (i.rd < 32) × (i.rs1 < 32) × (i.rs2 < 32) × (i.imm ≡ pos 0)
FitsAs I i = (i.rd < 32) × (i.rs1 < 32) × (i.rs2 ≡ 0) × IsWithin 2048 i.imm
FitsAs S i = (i.rd ≡ 0) × (i.rs1 < 32) × (i.rs2 < 32) × IsWithin 2048 i.imm
FitsAs B i = (i.rd ≡ 0) × (i.rs1 < 32) × (i.rs2 < 32) × IsWithin 4096 i.imm × (unsigned 4096 i.imm % 2 ≡ 0)
FitsAs U i = (i.rd < 32) × (i.rs1 ≡ 0) × (i.rs2 ≡ 0) × IsWithin 2147483648 i.imm × (unsigned 2147483648 i.imm % 4096 ≡ 0)
FitsAs J i = (i.rd < 32) × (i.rs1 ≡ 0) × (i.rs2 ≡ 0) × IsWithin 1048576 i.imm × (unsigned 1048576 i.imm % 2 ≡ 0)
FitsAs Shift6 i = (i.rd < 32) × (i.rs1 < 32) × (i.rs2 ≡ 0) × IsBelow 64 i.imm
FitsAs Shift5 i = (i.rd < 32) × (i.rs1 < 32) × (i.rs2 ≡ 0) × IsBelow 32 i.imm
FitsAs Fixed i = (i.rd ≡ 0) × (i.rs1 ≡ 0) × (i.rs2 ≡ 0) × (i.imm ≡ pos 0)

-- the instruction fits the format of its mnemonic
abbrev pub Fits : Ins → Type 0
Fits i = FitsAs (shape_of i.op).format i

-- the word of an instruction
abbrev pub word_of : Ins → ℕ
word_of i = joined (laid (shape_of i.op).format (shape_of i.op).key i)

-- ---- from a word to its instruction

-- an opcode of shifts has them at funct3 1 and 5, and the I-type else
abbrev pub refined : Format → ℕ → Format
refined R a = R
refined I a = I
refined S a = S
refined B a = B
refined U a = U
refined J a = J
refined Shift6 a = if a == 1 || a == 5 then Shift6 else I
refined Shift5 a = if a == 1 || a == 5 then Shift5 else I
refined Fixed a = Fixed

-- the format of an opcode
abbrev pub chosen : List (ℕ × Format) → ℕ → Format
chosen [] o = Fixed
chosen (e ∷ es) o = if o == e.0 then e.1 else chosen es o

abbrev pub opcodes : List (ℕ × Format)
opcodes = (0x37, U) ∷ (0x17, U) ∷ (0x6f, J) ∷ (0x67, I) ∷ (0x63, B) ∷ (0x03, I) ∷ (0x23, S) ∷ (0x13, Shift6) ∷ (0x33, R) ∷ (0x1b, Shift5) ∷ (0x3b, R) ∷ (0x0f, I) ∷ []

unfoldable pub kind_at : ℕ → Format
kind_at o = chosen opcodes o

abbrev pub format_at : Fields → Format
format_at f = refined (kind_at f.opcode) f.funct3

-- the word with every operand of the format 0
abbrev pub key_at : Format → Fields → ℕ
key_at R f = key f.funct7 f.funct3 f.opcode
key_at I f = key 0 f.funct3 f.opcode
key_at S f = key 0 f.funct3 f.opcode
key_at B f = key 0 f.funct3 f.opcode
key_at U f = key 0 0 f.opcode
key_at J f = key 0 0 f.opcode
key_at Shift6 f = key (f.funct7 / 2 * 2) f.funct3 f.opcode
key_at Shift5 f = key f.funct7 f.funct3 f.opcode
key_at Fixed f = joined f

-- an instruction by its operation, rd, rs1, rs2 and immediate
abbrev pub ins : Op → ℕ → ℕ → ℕ → ℤ → Ins
ins op a b c z = record { op = op; rd = a; rs1 = b; rs2 = c; imm = z }

-- an even number: bits 4..1 and 11 from the low field, bits 10..5 and the one of weight t from the high field
abbrev pub odd_at : ℕ → ℕ → ℕ → ℕ
odd_at t low high = low / 2 * 2 + low % 2 * 2048 + high % 64 * 32 + high / 64 * t

-- the instruction of a format with these fields
abbrev pub read_as : Format → Op → Fields → Ins
read_as R op f = ins op f.rd f.rs1 f.rs2 (pos 0)
read_as I op f = ins op f.rd f.rs1 0 (signed 2048 (f.rs2 + 32 * f.funct7))
read_as S op f = ins op 0 f.rs1 f.rs2 (signed 2048 (f.rd + 32 * f.funct7))
read_as B op f = ins op 0 f.rs1 f.rs2 (signed 4096 (odd_at 4096 f.rd f.funct7))
read_as U op f = ins op f.rd 0 0 (signed 2147483648 (4096 * (f.funct3 + 8 * f.rs1 + 256 * f.rs2 + 8192 * f.funct7)))
read_as J op f = ins op f.rd 0 0 (signed 1048576 (4096 * f.funct3 + 32768 * f.rs1 + odd_at 1048576 f.rs2 f.funct7))
read_as Shift6 op f = ins op f.rd f.rs1 0 (pos (f.rs2 + 32 * (f.funct7 % 2)))
read_as Shift5 op f = ins op f.rd f.rs1 0 (pos f.rs2)
read_as Fixed op f = ins op 0 0 0 (pos 0)

abbrev pub found_as : Format → Fields → Option Op → Option Ins
found_as g f None = None
found_as g f (Some op) = Some (read_as g op f)

-- the instruction of a word, if there is one
unfoldable pub decoded : ℕ → Option Ins
decoded w = let f = parted w in let g = format_at f in found_as g f (op_at (key_at g f))
