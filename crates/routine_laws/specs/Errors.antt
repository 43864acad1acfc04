-- The loop that writes a range of bytes to the error stream, until all of it is taken.
use Rattle.std.specs.Prelude.{◌≡◌, ◌≢◌, ℕ, ◌+◌, ◌<◌, ◌^◌, pos, negsuc, List, [], ◌∷◌, ◌++◌}
use Rattle.rv_isa.specs.declared.table.Op.TheVariants.{Addi, Add, Sub, Beq, Ecall, Jal}
use Rattle.rv_isa.specs.declared.word.Ins.{Ins}
use Rattle.rv_isa.specs.Word.{ins}
use Rattle.rv_run.specs.Seen.{listed_from}
use Rattle.rv_acts.specs.Emitted.{Emitted, CanRead}
use Rattle.rv_acts.specs.Fine.{AllKnown, Fine}

-- x11 and x12 have the range that is left, and x17 the number of the call
abbrev pub errors_code : List Ins
errors_code = ins Beq 0 12 0 (pos 24) ∷ ins Addi 10 0 0 (pos 2) ∷ ins Ecall 0 0 0 (pos 0) ∷ ins Add 11 11 10 (pos 0) ∷ ins Sub 12 12 10 (pos 0) ∷ ins Jal 0 0 0 (negsuc 19) ∷ []

-- at p, with n bytes from x on
pub record Ranged (I : Emitted) (x n p : ℕ) (a : Fine) : Type 0 where
  pub at : a.at ≡ p
  pub x0 : a.regs 0 ≡ 0
  pub x17 : a.regs 17 ≡ 64
  pub x11 : a.regs 11 ≡ x
  pub x12 : a.regs 12 ≡ n
  pub reads : CanRead I x n
  pub known : AllKnown a.byte x n
  pub small : x + n < 2 ^ 62

-- behind the loop, where they are written
pub record ErrorTold (x n p : ℕ) (a b : Fine) : Type 0 where
  pub at : b.at ≡ p + 6
  pub x12 : b.regs 12 ≡ 0
  pub same : (r : ℕ) → r ≢ 10 → r ≢ 11 → r ≢ 12 → b.regs r ≡ a.regs r
  pub bytes : (y : ℕ) → b.byte y ≡ a.byte y
  pub err : b.err ≡ a.err ++ listed_from a.byte x n
  pub out : b.out ≡ a.out
  pub input : b.input ≡ a.input
