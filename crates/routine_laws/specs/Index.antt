-- The routines that answer the length of a string, and one of its characters.
use Rattle.std.specs.Prelude.{◌≡◌, ◌≢◌, ℕ, ◌+◌, ◌*◌, pos, List, [], ◌∷◌, ◌++◌, length, get_or}
use Rattle.rv_isa.specs.declared.table.Op.TheVariants.{Addi, Add, Slli, Srai, Bltu, Lwu, Lbu, Jalr}
use Rattle.rv_isa.specs.declared.word.Ins.{Ins}
use Rattle.rv_isa.specs.Word.{ins}
use Rattle.rv_acts.specs.Fine.{Fine}
use Rattle.rv_pieces.specs.Pair.{jump}
use Rattle.routine_laws.specs.Strings.{SameOutside}

-- a number n is the word 2n + 1, and so is a character
abbrev pub size_code : List Ins
size_code = ins Lwu 5 5 0 (pos 4) ∷ ins Slli 5 5 0 (pos 1) ∷ ins Addi 5 5 0 (pos 1) ∷ ins Jalr 0 31 0 (pos 0) ∷ []

-- at place p; an index out of range goes on at place subscript
abbrev pub sub_code : ℕ → ℕ → List Ins
sub_code p subscript = ins Srai 6 6 0 (pos 1) ∷ ins Lwu 7 5 0 (pos 4) ∷ ins Bltu 0 6 7 (pos 12) ∷ (jump (p + 3) subscript ++ (ins Add 5 5 6 (pos 0) ∷ ins Lbu 5 5 0 (pos 8) ∷ ins Slli 5 5 0 (pos 1) ∷ ins Addi 5 5 0 (pos 1) ∷ ins Jalr 0 31 0 (pos 0) ∷ []))

-- it has returned with the length
pub record Sized (bs : List ℕ) (ret : ℕ) (a b : Fine) : Type 0 where
  pub at : b.at ≡ ret
  pub x5 : b.regs 5 ≡ 2 * length bs + 1
  pub same : (r : ℕ) → r ≢ 5 → b.regs r ≡ a.regs r
  pub bytes : b.byte ≡ a.byte
  pub outside : SameOutside a b

-- it has returned with the i-th byte
pub record Indexed (bs : List ℕ) (i ret : ℕ) (a b : Fine) : Type 0 where
  pub at : b.at ≡ ret
  pub x5 : b.regs 5 ≡ 2 * get_or bs i 0 + 1
  pub same : (r : ℕ) → r ≢ 5 → r ≢ 6 → r ≢ 7 → b.regs r ≡ a.regs r
  pub bytes : b.byte ≡ a.byte
  pub outside : SameOutside a b

-- it has gone on to raise
pub record OutOfRange (subscript : ℕ) (a b : Fine) : Type 0 where
  pub at : b.at ≡ subscript
  pub same : (r : ℕ) → r ≢ 6 → r ≢ 7 → r ≢ 31 → b.regs r ≡ a.regs r
  pub bytes : b.byte ≡ a.byte
  pub outside : SameOutside a b
