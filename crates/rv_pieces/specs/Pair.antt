-- An address from another, in two instructions: AUIPC adds a multiple of 4,096 to its own address, and the instruction behind it -2,048 to
-- 2,047. For two places of the text the two numbers are those of the assembler.
use Rattle.std.specs.Prelude.{ℕ, ◌+◌, ◌-◌, ◌*◌, ◌/◌, ◌%◌, ◌^◌, ◌<◌, ℤ, pos, ◌-ℤ◌, List, [], ◌∷◌}
use Rattle.rv_isa.specs.declared.table.Op.TheVariants.{Auipc, Addi, Jalr}
use Rattle.rv_isa.specs.declared.word.Ins.{Ins}
use Rattle.rv_isa.specs.Word.{ins}
use Rattle.rv_acts.specs.Emitted.{base}

-- the bytes from address p to t, and 2 ^ 31 + 2 ^ 11 more
abbrev pub distance : ℕ → ℕ → ℕ
distance p t = t + (2 ^ 31 + 2 ^ 11) - p

abbrev pub upper : ℕ → ℤ
upper u = pos (u / 4096 * 4096) -ℤ pos (2 ^ 31)

abbrev pub lower : ℕ → ℤ
lower u = pos (u % 4096) -ℤ pos (2 ^ 11)

-- rd becomes the address t, from place p of the text
abbrev pub la : ℕ → ℕ → ℕ → List Ins
la rd p t = ins Auipc rd 0 0 (upper (distance (base + 4 * p) t)) ∷ ins Addi rd rd 0 (lower (distance (base + 4 * p) t)) ∷ []

-- a jump from place p to another, by x31
abbrev pub jump : ℕ → ℕ → List Ins
jump p target = ins Auipc 31 0 0 (upper (distance (base + 4 * p) (base + 4 * target))) ∷ ins Jalr 0 31 0 (lower (distance (base + 4 * p) (base + 4 * target))) ∷ []

-- t is within the reach of a pair from place p
pub record Reaches (p t : ℕ) : Type 0 where
  pub from : base + 4 * p < 2 ^ 63
  pub to : t < 2 ^ 63
  pub back : base + 4 * p < t + 2147479552
  pub on : t < base + 4 * p + 2147479552
