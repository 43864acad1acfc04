-- Routines that raise an exception of the library, and the one that makes a string of a character.
use Rattle.std.specs.Prelude.{◌≡◌, ◌≢◌, ℕ, ◌+◌, ◌*◌, ◌%◌, ◌<◌, ◌≤◌, ◌^◌, pos, List, [], ◌∷◌, ◌++◌}
use Rattle.rv_isa.specs.declared.table.Op.TheVariants.{Addi, Slli, Srli, Bgeu, Ld, Sd, Jalr}
use Rattle.rv_isa.specs.declared.word.Ins.{Ins}
use Rattle.rv_isa.specs.Word.{ins}
use Rattle.rv_acts.specs.Emitted.{Emitted, base, CanRead}
use Rattle.rv_acts.specs.Fine.{Fine}
use Rattle.rv_acts.specs.Trip.{Steady, WordIs}
use Rattle.rv_pieces.specs.Pair.{la, jump}
use Rattle.routine_laws.specs.Places.{end_at}
use Rattle.routine_laws.specs.Strings.{StringAt, SameOutside}

-- ---- raising

-- the packet is the static block of the exception's name, and the handler in x18 is called with it
abbrev pub raise_code : ℕ → ℕ → List Ins
raise_code p name = la 11 p name ++ (ins Addi 10 18 0 (pos 0) ∷ ins Ld 31 18 0 (pos 8) ∷ ins Jalr 0 31 0 (pos 0) ∷ [])

-- x18 has a closure whose code is at ret
pub record Handled (I : Emitted) (ret p : ℕ) (a : Fine) : Type 0 where
  pub at : a.at ≡ p
  pub x0 : a.regs 0 ≡ 0
  pub x18 : a.regs 18 < 2 ^ 62
  pub aligned : a.regs 18 % 8 ≡ 0
  pub reads : CanRead I (a.regs 18 + 8) 8
  pub code : WordIs a.byte (a.regs 18 + 8) (base + 4 * ret)

pub record Raised (name ret : ℕ) (a b : Fine) : Type 0 where
  pub at : b.at ≡ ret
  pub x10 : b.regs 10 ≡ a.regs 18
  pub x11 : b.regs 11 ≡ name
  pub same : (r : ℕ) → r ≢ 10 → r ≢ 11 → r ≢ 31 → b.regs r ≡ a.regs r
  pub bytes : b.byte ≡ a.byte
  pub outside : SameOutside a b

-- ---- a string of one character

-- room for two words, the header, and the character as a word
abbrev pub str_code : ℕ → ℕ → List Ins
str_code p full = ins Addi 7 8 0 (pos 16) ∷ ins Bgeu 0 9 7 (pos 16) ∷ ins Addi 12 0 0 (pos 2) ∷ (jump (p + 3) full ++ (ins Addi 6 0 0 (pos 1) ∷ ins Slli 6 6 0 (pos 32) ∷ ins Addi 6 6 0 (pos 2) ∷ ins Sd 0 8 6 (pos 0) ∷ ins Srli 5 5 0 (pos 1) ∷ ins Sd 0 8 5 (pos 8) ∷ ins Addi 5 8 0 (pos 0) ∷ ins Addi 8 7 0 (pos 0) ∷ ins Jalr 0 31 0 (pos 0) ∷ []))

-- called at p with a character in x5
pub record Lettered (I : Emitted) (letter top ret p : ℕ) (a : Fine) : Type 0 where
  pub at : a.at ≡ p
  pub x0 : a.regs 0 ≡ 0
  pub x5 : a.regs 5 ≡ 2 * letter + 1
  pub byte : letter < 256
  pub x8 : a.regs 8 ≡ top
  pub x9 : a.regs 9 ≡ end_at I
  pub x31 : a.regs 31 ≡ base + 4 * ret
  pub aligned : top % 8 ≡ 0
  pub low : I.entries.arena ≤ top
  pub high : top ≤ end_at I

pub record Stringed (I : Emitted) (letter top ret : ℕ) (a b : Fine) : Type 0 where
  pub at : b.at ≡ ret
  pub x5 : b.regs 5 ≡ top
  pub x8 : b.regs 8 ≡ top + 16
  pub block : StringAt b.byte top (letter ∷ [])
  pub same : (r : ℕ) → r ≢ 5 → r ≢ 6 → r ≢ 7 → r ≢ 8 → b.regs r ≡ a.regs r
  pub others : (x : ℕ) → x < top → b.byte x ≡ a.byte x
  pub outside : SameOutside a b

pub record StrFull (I : Emitted) (full : ℕ) (a b : Fine) : Type 0 where
  pub at : b.at ≡ full
  pub x12 : b.regs 12 ≡ 2
  pub steady : Steady I a b
  pub outside : SameOutside a b
