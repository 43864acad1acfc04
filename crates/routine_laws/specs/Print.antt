-- The routine that writes a string to the output, until all of it is taken.
use Rattle.std.specs.Prelude.{◌≡◌, ◌≢◌, ℕ, ◌+◌, ◌*◌, ◌≤◌, ◌<◌, ◌⊎◌, pos, negsuc, List, [], ◌∷◌, ◌++◌, length}
use Rattle.rv_isa.specs.declared.table.Op.TheVariants.{Addi, Add, Sub, Beq, Lwu, Ld, Sd, Ecall, Jal, Jalr}
use Rattle.rv_isa.specs.declared.word.Ins.{Ins}
use Rattle.rv_isa.specs.Word.{ins}
use Rattle.rv_acts.specs.Emitted.{Emitted, base}
use Rattle.rv_acts.specs.Fine.{IsKnown, Fine}
use Rattle.rv_pieces.specs.Pair.{la}
use Rattle.routine_laws.specs.Places.{save_at, end_at}
use Rattle.routine_laws.specs.Strings.{StringIn}

-- registers are saved, and the range and the call stand in theirs
abbrev pub t_start : Emitted → ℕ → List Ins
t_start I p = la 9 p (save_at I) ++ (ins Sd 0 9 10 (pos 0) ∷ ins Sd 0 9 11 (pos 8) ∷ ins Sd 0 9 12 (pos 16) ∷ ins Sd 0 9 17 (pos 24) ∷ ins Addi 11 5 0 (pos 8) ∷ ins Lwu 12 5 0 (pos 4) ∷ ins Addi 17 0 0 (pos 64) ∷ [])

-- until nothing is left, what is left is written
abbrev pub t_loop : List Ins
t_loop = ins Beq 0 12 0 (pos 24) ∷ ins Addi 10 0 0 (pos 1) ∷ ins Ecall 0 0 0 (pos 0) ∷ ins Add 11 11 10 (pos 0) ∷ ins Sub 12 12 10 (pos 0) ∷ ins Jal 0 0 0 (negsuc 19) ∷ []

-- registers are brought back
abbrev pub t_load : Emitted → ℕ → List Ins
t_load I p = la 9 p (save_at I) ++ (ins Ld 10 9 0 (pos 0) ∷ ins Ld 11 9 0 (pos 8) ∷ ins Ld 12 9 0 (pos 16) ∷ ins Ld 17 9 0 (pos 24) ∷ (la 9 (p + 6) (end_at I) ++ ins Jalr 0 31 0 (pos 0) ∷ []))

-- the routine at place p
abbrev pub print_code : Emitted → ℕ → List Ins
print_code I p = t_start I p ++ (t_loop ++ t_load I (p + 15))

-- It is called at p with a string in x5, and is to return to ret. The next free byte is top.
pub record Telling (I : Emitted) (bs : List ℕ) (x top ret p : ℕ) (a : Fine) : Type 0 where
  pub at : a.at ≡ p
  pub zero_reg : a.regs 0 ≡ 0
  pub x5 : a.regs 5 ≡ x
  pub x8 : a.regs 8 ≡ top
  pub x31 : a.regs 31 ≡ base + 4 * ret
  pub text : StringIn I top a.byte x bs
  pub low : I.entries.arena ≤ top
  pub high : top ≤ end_at I

-- It has returned, and the string is written. Nothing else has changed but the save area.
pub record Printed (I : Emitted) (bs : List ℕ) (ret : ℕ) (a b : Fine) : Type 0 where
  pub at : b.at ≡ ret
  pub x0 : b.regs 0 ≡ 0
  pub x9 : b.regs 9 ≡ end_at I
  pub same : (r : ℕ) → r ≢ 9 → IsKnown (a.regs r) → b.regs r ≡ a.regs r
  pub others : (x : ℕ) → (x < save_at I) ⊎ (save_at I + 32 ≤ x) → b.byte x ≡ a.byte x
  pub out : b.out ≡ a.out ++ bs
  pub err : b.err ≡ a.err
  pub input : b.input ≡ a.input

-- so many instructions at most, under any cuts
abbrev pub print_most : List ℕ → ℕ
print_most bs = 9 + (length bs * 6 + 10)
