-- Loops that copy: the word, or byte, 8 behind the source goes 8 behind the target.
use Rattle.std.specs.Prelude.{ℕ, pos, negsuc, List, [], ◌∷◌}
use Rattle.rv_isa.specs.declared.table.Op.TheVariants.{Addi, Beq, Blt, Lbu, Ld, Sb, Sd, Jal}
use Rattle.rv_isa.specs.declared.word.Ins.{Ins}
use Rattle.rv_isa.specs.Word.{ins}

-- while n bytes are left, the byte 8 behind src goes 8 behind dst
abbrev pub bytes_code : ℕ → ℕ → ℕ → ℕ → List Ins
bytes_code src dst n tmp = ins Beq 0 n 0 (pos 28) ∷ ins Lbu tmp src 0 (pos 8) ∷ ins Sb 0 dst tmp (pos 8) ∷ ins Addi src src 0 (pos 1) ∷ ins Addi dst dst 0 (pos 1) ∷ ins Addi n n 0 (negsuc 0) ∷ ins Jal 0 0 0 (negsuc 23) ∷ []

abbrev pub words_code : List Ins
words_code = ins Addi 30 28 0 (negsuc 7) ∷ ins Blt 0 30 0 (pos 28) ∷ ins Ld 30 5 0 (pos 8) ∷ ins Sd 0 9 30 (pos 8) ∷ ins Addi 5 5 0 (pos 8) ∷ ins Addi 9 9 0 (pos 8) ∷ ins Addi 28 28 0 (negsuc 7) ∷ ins Jal 0 0 0 (negsuc 27) ∷ []
