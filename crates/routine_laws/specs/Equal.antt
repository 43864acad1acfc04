-- A turn of equality on a list of pending pairs: an empty list delivers the truth value, and two tuples push the pairs of their fields.
use Rattle.std.specs.Prelude.{◌≡◌, ◌≢◌, ℕ, zero, suc, ◌+◌, ◌-◌, ◌*◌, ◌%◌, ◌^◌, ◌<◌, ◌≤◌, ◌⊎◌, pos, negsuc, List, [], ◌∷◌, length}
use Rattle.rv_isa.specs.declared.table.Op.TheVariants.{Addi, Add, Andi, Or, Slli, Bne, Beq, Bgeu, Ld, Lw, Lwu, Sd, Auipc, Jalr}
use Rattle.rv_isa.specs.declared.word.Ins.{Ins}
use Rattle.rv_isa.specs.Word.{ins}
use Rattle.rv_acts.specs.Emitted.{Emitted, base, CanRead}
use Rattle.rv_acts.specs.Fine.{Fine}
use Rattle.rv_acts.specs.Trip.{IsLow, WordIs}
use Rattle.rv_pieces.specs.Stand.{Stands}
use Rattle.rv_pieces.specs.Pair.{distance, upper, lower}
use Rattle.routine_laws.specs.Places.{end_at}
use Rattle.routine_laws.specs.Strings.{SameOutside}

-- ---- code

-- kind 7, and three words
abbrev pub pair_header : ℕ
pair_header = 12884901895

-- room, the pair, and on to the field before
abbrev pub q_make : ℕ → ℕ → List Ins
q_make p full = ins Addi 31 8 0 (pos 32) ∷ ins Bgeu 0 9 31 (pos 16) ∷ ins Addi 12 0 0 (pos 4) ∷ ins Auipc 31 0 0 (upper (distance (base + 4 * (p + 3)) (base + 4 * full))) ∷ ins Jalr 0 31 0 (lower (distance (base + 4 * (p + 3)) (base + 4 * full))) ∷ []

abbrev pub q_words : List Ins
q_words = ins Addi 31 0 0 (pos 3) ∷ ins Slli 31 31 0 (pos 32) ∷ ins Addi 31 31 0 (pos 7) ∷ ins Sd 0 8 31 (pos 0) ∷ ins Ld 31 5 0 (pos 0) ∷ ins Sd 0 8 31 (pos 8) ∷ ins Ld 31 6 0 (pos 0) ∷ ins Sd 0 8 31 (pos 16) ∷ ins Sd 0 8 11 (pos 24) ∷ ins Addi 11 8 0 (pos 0) ∷ ins Addi 8 8 0 (pos 32) ∷ []

abbrev pub q_next : List Ins
q_next = ins Addi 5 5 0 (negsuc 7) ∷ ins Addi 6 6 0 (negsuc 7) ∷ ins Addi 7 7 0 (negsuc 7) ∷ ins Bne 0 7 0 (negsuc 75) ∷ []

-- the turn: an empty list, and two tuples
abbrev pub e_turn : List Ins
e_turn = ins Bne 0 11 0 (pos 20) ∷ ins Addi 11 10 0 (pos 0) ∷ ins Addi 10 12 0 (pos 0) ∷ ins Ld 31 10 0 (pos 8) ∷ ins Jalr 0 31 0 (pos 0) ∷ ins Ld 5 11 0 (pos 8) ∷ ins Ld 6 11 0 (pos 16) ∷ ins Ld 11 11 0 (pos 24) ∷ ins Or 31 5 6 (pos 0) ∷ ins Andi 31 31 0 (pos 1) ∷ ins Bne 0 31 0 (pos 56) ∷ ins Lw 31 5 0 (pos 0) ∷ ins Andi 31 31 0 (pos 7) ∷ ins Beq 0 31 0 (pos 72) ∷ []

abbrev pub e_tuples : List Ins
e_tuples = ins Lwu 7 5 0 (pos 4) ∷ ins Slli 7 7 0 (pos 3) ∷ ins Add 5 5 7 (pos 0) ∷ ins Add 6 6 7 (pos 0) ∷ []

-- where they stand in the routine, from its turn on
pub record TurnCode (I : Emitted) (q full : ℕ) : Type 0 where
  pub turn : Stands I.code q e_turn
  pub tuples : Stands I.code (q + 31) e_tuples
  pub make : Stands I.code (q + 35) (q_make (q + 35) full)
  pub words : Stands I.code (q + 40) q_words
  pub next : Stands I.code (q + 51) q_next

-- ---- pairs

-- a pending pair: two values, and the next pair
pub record PairAt (m : ℕ → ℕ) (y u v n : ℕ) : Type 0 where
  pub header : WordIs m y pair_header
  pub left : WordIs m (y + 8) u
  pub right : WordIs m (y + 16) v
  pub rest : WordIs m (y + 24) n

-- fields of two blocks, by their number from 1 on
pub record Fields (I : Emitted) (top : ℕ) (m : ℕ → ℕ) (x many : ℕ) (f : ℕ → ℕ) : Type 0 where
  pub aligned : x % 8 ≡ 0
  pub is : (j : ℕ) → 0 < j → j ≤ many → WordIs m (x + 8 * j) (f j)
  pub small : (j : ℕ) → f j < 2 ^ 64
  pub place : ((I.place ≤ x) × (x + 8 + 8 * many ≤ I.place + length I.literals)) ⊎ ((I.entries.arena ≤ x) × (x + 8 + 8 * many ≤ top))

-- ---- no pair is left

-- it has gone on at the continuation, with the truth value
pub record Delivered (ret : ℕ) (a b : Fine) : Type 0 where
  pub at : b.at ≡ ret
  pub r10 : b.regs 10 ≡ a.regs 12
  pub r11 : b.regs 11 ≡ a.regs 10
  pub bytes : b.byte ≡ a.byte
  pub outside : SameOutside a b

-- x11 is 0, x10 has a truth value, and x12 a continuation that goes on at ret
pub record Empty (I : Emitted) (q ret : ℕ) (a : Fine) : Type 0 where
  pub at : a.at ≡ q
  pub x0 : a.regs 0 ≡ 0
  pub x11 : a.regs 11 ≡ 0
  pub x10 : a.regs 10 < 2 ^ 62
  pub x12 : a.regs 12 < 2 ^ 62
  pub aligned : a.regs 12 % 8 ≡ 0
  pub reads : CanRead I (a.regs 12 + 8) 8
  pub code : WordIs a.byte (a.regs 12 + 8) (base + 4 * ret)

-- ---- the first pair has two tuples

pub record Two (I : Emitted) (q y u v n many top : ℕ) (f g : ℕ → ℕ) (a : Fine) : Type 0 where
  pub at : a.at ≡ q
  pub zero_reg : a.regs 0 ≡ 0
  pub x8 : a.regs 8 ≡ top
  pub x9 : a.regs 9 ≡ end_at I
  pub x11 : a.regs 11 ≡ y
  pub pair : PairAt a.byte y u v n
  pub y_at : y % 8 ≡ 0
  pub y_low : I.entries.arena ≤ y
  pub y_high : y + 32 ≤ top
  pub rest : n < 2 ^ 64
  pub top_at : top % 8 ≡ 0
  pub low : I.entries.arena ≤ top
  pub high : top ≤ end_at I
  pub header : WordIs a.byte u (0 + 4294967296 * many)
  pub some : 0 < many
  pub first : Fields I top a.byte u many f
  pub second : Fields I top a.byte v many g

-- the list after j pairs
abbrev pub chain : ℕ → ℕ → ℕ → ℕ
chain n top zero = n
chain n top (suc j) = top + 32 * j

-- the pairs of all fields stand in front of the list, the first field's first, and one jump leads back to the turn
pub record Turned (I : Emitted) (q n many top : ℕ) (f g : ℕ → ℕ) (a c : Fine) : Type 0 where
  pub at : c.at ≡ q + 55
  pub r8 : c.regs 8 ≡ top + 32 * many
  pub r11 : c.regs 11 ≡ chain n top many
  pub room : top + 32 * many ≤ end_at I
  pub pairs : (j : ℕ) → j < many → PairAt c.byte (top + 32 * j) (f (many - j)) (g (many - j)) (chain n top j)
  pub low : (x : ℕ) → IsLow I top x → c.byte x ≡ a.byte x
  pub same : (r : ℕ) → r ≢ 5 → r ≢ 6 → r ≢ 7 → r ≢ 8 → r ≢ 11 → r ≢ 31 → c.regs r ≡ a.regs r
  pub outside : SameOutside a c

-- or the arena is full at the next pair
pub record TurnFull (I : Emitted) (full top : ℕ) (a c : Fine) : Type 0 where
  pub at : c.at ≡ full
  pub r12 : c.regs 12 ≡ 4
  pub used : (i : ℕ) × (c.regs 8 ≡ top + 32 * i) × (end_at I < c.regs 8 + 32)
  pub outside : SameOutside a c
