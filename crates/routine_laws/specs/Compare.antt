-- The routine that compares two strings byte by byte.
use Rattle.std.specs.Prelude.{◌≡◌, ◌≢◌, ℕ, ◌+◌, ◌*◌, ◌<◌, ◌≤◌, ◌⊎◌, pos, negsuc, nat_lt, if◌then◌else◌, List, [], ◌∷◌, ◌++◌, length}
use Rattle.rv_isa.specs.declared.table.Op.TheVariants.{Addi, Slli, Slt, Sub, Beq, Bne, Bgeu, Bltu, Lbu, Lwu, Jal}
use Rattle.rv_isa.specs.declared.word.Ins.{Ins}
use Rattle.rv_isa.specs.Word.{ins}
use Rattle.rv_acts.specs.Emitted.{Emitted}
use Rattle.rv_acts.specs.Fine.{IsKnown, Fine}
use Rattle.routine_laws.specs.Places.{save_at, end_at}
use Rattle.routine_laws.specs.Strings.{SameOutside}
use Rattle.routine_laws.specs.Concat.{c_save, c_load}

-- the first byte that differs decides, and else the length: 1 for less, 3 for equal, 5 for greater
abbrev pub order : List ℕ → List ℕ → ℕ
order [] [] = 3
order [] (b ∷ bs) = 1
order (u ∷ us) [] = 5
order (u ∷ us) (b ∷ bs) = if nat_lt u b then 1 else if nat_lt b u then 5 else order us bs

-- what the lengths alone say, and how many bytes both have
abbrev pub k_lengths : List Ins
k_lengths = ins Lwu 7 5 0 (pos 4) ∷ ins Lwu 28 6 0 (pos 4) ∷ ins Slt 29 28 7 (pos 0) ∷ ins Slt 30 7 28 (pos 0) ∷ ins Sub 30 29 30 (pos 0) ∷ ins Addi 29 7 0 (pos 0) ∷ ins Bgeu 0 28 7 (pos 8) ∷ ins Addi 29 28 0 (pos 0) ∷ ins Slli 7 30 0 (pos 1) ∷ ins Addi 7 7 0 (pos 3) ∷ []

-- bytes while they are equal
abbrev pub k_loop : List Ins
k_loop = ins Beq 0 29 0 (pos 44) ∷ ins Lbu 28 5 0 (pos 8) ∷ ins Lbu 30 6 0 (pos 8) ∷ ins Bne 0 28 30 (pos 20) ∷ ins Addi 5 5 0 (pos 1) ∷ ins Addi 6 6 0 (pos 1) ∷ ins Addi 29 29 0 (negsuc 0) ∷ ins Jal 0 0 0 (negsuc 27) ∷ []

-- two that differ
abbrev pub k_differ : List Ins
k_differ = ins Addi 7 0 0 (pos 1) ∷ ins Bltu 0 28 30 (pos 8) ∷ ins Addi 7 0 0 (pos 5) ∷ ins Addi 5 7 0 (pos 0) ∷ []

-- the routine at place p
abbrev pub compare_code : Emitted → ℕ → List Ins
compare_code I p = c_save I p ++ (k_lengths ++ (k_loop ++ (k_differ ++ c_load I (p + 29))))

-- It has returned with the order. Nothing else has changed but scratch registers and the save area.
pub record Compared (I : Emitted) (us bs : List ℕ) (ret : ℕ) (a b : Fine) : Type 0 where
  pub at : b.at ≡ ret
  pub x0 : b.regs 0 ≡ 0
  pub x5 : b.regs 5 ≡ order us bs
  pub x9 : b.regs 9 ≡ end_at I
  pub same : (r : ℕ) → r ≢ 5 → r ≢ 6 → r ≢ 7 → r ≢ 9 → IsKnown (a.regs r) → b.regs r ≡ a.regs r
  pub others : (x : ℕ) → (x < save_at I) ⊎ (save_at I + 24 ≤ x) → b.byte x ≡ a.byte x
  pub outside : SameOutside a b

-- so many instructions at most
abbrev pub compare_most : List ℕ → ℕ
compare_most us = 7 + (10 + (length us * 8 + 8 + 8))
