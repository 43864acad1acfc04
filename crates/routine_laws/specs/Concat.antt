-- The routine that joins two strings into a new block.
use Rattle.std.specs.Prelude.{◌≡◌, ◌≢◌, ℕ, ◌+◌, ◌*◌, ◌/◌, ◌%◌, ◌<◌, ◌≤◌, ◌⊎◌, pos, negsuc, List, [], ◌∷◌, ◌++◌, length}
use Rattle.rv_isa.specs.declared.table.Op.TheVariants.{Addi, Slli, Srli, Add, Sub, Bgeu, Lwu, Ld, Sd, Auipc, Jalr}
use Rattle.rv_isa.specs.declared.word.Ins.{Ins}
use Rattle.rv_isa.specs.Word.{ins}
use Rattle.rv_acts.specs.Emitted.{Emitted, base}
use Rattle.rv_acts.specs.Fine.{IsKnown, Fine}
use Rattle.rv_acts.specs.Trip.{Steady}
use Rattle.rv_pieces.specs.Pair.{distance, upper, lower, la}
use Rattle.routine_laws.specs.Places.{save_at, end_at}
use Rattle.routine_laws.specs.Strings.{string_words, StringAt, StringIn, SameOutside}
use Rattle.routine_laws.specs.Copy.{bytes_code, words_code}

-- registers are saved
abbrev pub c_save : Emitted → ℕ → List Ins
c_save I p = la 9 p (save_at I) ++ (ins Sd 0 9 28 (pos 0) ∷ ins Sd 0 9 29 (pos 8) ∷ ins Sd 0 9 30 (pos 16) ∷ la 9 (p + 5) (end_at I))

-- the lengths
abbrev pub c_sizes : List Ins
c_sizes = ins Lwu 28 5 0 (pos 4) ∷ ins Lwu 29 6 0 (pos 4) ∷ ins Add 29 28 29 (pos 0) ∷ []

-- the room that the new block needs, and whether it is there
abbrev pub c_room : ℕ → ℕ → List Ins
c_room p full = ins Addi 7 29 0 (pos 7) ∷ ins Srli 7 7 0 (pos 3) ∷ ins Slli 7 7 0 (pos 3) ∷ ins Addi 7 7 0 (pos 8) ∷ ins Add 7 8 7 (pos 0) ∷ ins Bgeu 0 9 7 (pos 20) ∷ ins Sub 12 7 8 (pos 0) ∷ ins Srli 12 12 0 (pos 3) ∷ ins Auipc 31 0 0 (upper (distance (base + 4 * (p + 8)) (base + 4 * full))) ∷ ins Jalr 0 31 0 (lower (distance (base + 4 * (p + 8)) (base + 4 * full))) ∷ []

-- the last word is zero, then the header
abbrev pub c_header : List Ins
c_header = ins Sd 0 7 0 (negsuc 7) ∷ ins Slli 30 29 0 (pos 32) ∷ ins Addi 30 30 0 (pos 2) ∷ ins Sd 0 8 30 (pos 0) ∷ ins Sub 29 29 28 (pos 0) ∷ ins Addi 9 8 0 (pos 0) ∷ []

-- the block, and the next free byte behind it
abbrev pub c_done : List Ins
c_done = ins Addi 5 8 0 (pos 0) ∷ ins Addi 8 7 0 (pos 0) ∷ []

-- registers are brought back
abbrev pub c_load : Emitted → ℕ → List Ins
c_load I p = la 9 p (save_at I) ++ (ins Ld 28 9 0 (pos 0) ∷ ins Ld 29 9 0 (pos 8) ∷ ins Ld 30 9 0 (pos 16) ∷ (la 9 (p + 5) (end_at I) ++ ins Jalr 0 31 0 (pos 0) ∷ []))

-- the routine at place p, which tells of a full arena at place full
abbrev pub concat_code : Emitted → ℕ → ℕ → List Ins
concat_code I p full = c_save I p ++ (c_sizes ++ (c_room (p + 10) full ++ (c_header ++ (words_code ++ (bytes_code 5 9 28 30 ++ (bytes_code 6 9 29 30 ++ (c_done ++ c_load I (p + 50))))))))

-- It is called at p with two strings in x5 and x6, and is to return to ret. The next free byte is top.

pub record Strung (I : Emitted) (us bs : List ℕ) (xa xb top ret p : ℕ) (a : Fine) : Type 0 where
  pub at : a.at ≡ p
  pub zero_reg : a.regs 0 ≡ 0
  pub x5 : a.regs 5 ≡ xa
  pub x6 : a.regs 6 ≡ xb
  pub x8 : a.regs 8 ≡ top
  pub x31 : a.regs 31 ≡ base + 4 * ret
  pub first : StringIn I top a.byte xa us
  pub second : StringIn I top a.byte xb bs
  pub aligned : top % 8 ≡ 0
  pub low : I.entries.arena ≤ top
  pub high : top ≤ end_at I

-- the next free byte behind the new block
abbrev pub joined_top : List ℕ → List ℕ → ℕ → ℕ
joined_top us bs top = top + 8 + 8 * string_words (length us + length bs)

-- It has returned with the new block in x5. Nothing else has changed but scratch registers, the save area, and the arena above the old x8.
pub record Joined (I : Emitted) (us bs : List ℕ) (top ret : ℕ) (a b : Fine) : Type 0 where
  pub at : b.at ≡ ret
  pub x0 : b.regs 0 ≡ 0
  pub x5 : b.regs 5 ≡ top
  pub x8 : b.regs 8 ≡ joined_top us bs top
  pub x9 : b.regs 9 ≡ end_at I
  pub block : StringAt b.byte top (us ++ bs)
  pub same : (r : ℕ) → r ≢ 0 → r ≢ 5 → r ≢ 6 → r ≢ 7 → r ≢ 8 → r ≢ 9 → IsKnown (a.regs r) → b.regs r ≡ a.regs r
  pub others : (x : ℕ) → x < top → (x < save_at I) ⊎ (save_at I + 24 ≤ x) → b.byte x ≡ a.byte x
  pub outside : SameOutside a b

-- it has gone to tell of a full arena, with the words of the block in x12
pub record JoinedFull (I : Emitted) (us bs : List ℕ) (full : ℕ) (a b : Fine) : Type 0 where
  pub at : b.at ≡ full
  pub x12 : b.regs 12 ≡ 1 + string_words (length us + length bs)
  pub steady : Steady I a b
  pub outside : SameOutside a b

-- so many instructions at most
abbrev pub concat_most : List ℕ → List ℕ → ℕ
concat_most us bs = 36 + length us / 8 * 8 + length us % 8 * 7 + length bs * 7
