-- The routine that ends a run with the line of an uncaught exception.
use Rattle.std.specs.Prelude.{◌≡◌, ℕ, ◌+◌, ◌*◌, ◌%◌, ◌<◌, ◌≤◌, ◌^◌, pos, negsuc, List, [], ◌∷◌, ◌++◌, length, codes, None}
use Rattle.rv_isa.specs.declared.table.Op.TheVariants.{Addi, Andi, Bne, Lw, Lwu, Ld, Ecall}
use Rattle.rv_isa.specs.declared.word.Ins.{Ins}
use Rattle.rv_isa.specs.Word.{ins}
use Rattle.simulation.specs.Runs.{Uncaught}
use Rattle.simulation.specs.Machines.{state_at}
use Rattle.rv_run.specs.Run.{Spot, risc, line_of}
use Rattle.rv_acts.specs.Emitted.{Emitted, CanRead}
use Rattle.rv_acts.specs.Fine.{Fine}
use Rattle.rv_acts.specs.Trip.{WordIs}
use Rattle.rv_pieces.specs.Pair.{la, Reaches}
use Rattle.routine_laws.specs.Places.{end_at}
use Rattle.routine_laws.specs.Strings.{StringIn}
use Rattle.routine_laws.specs.Errors.{errors_code}

-- the name of the packet in x11: its first field, or the packet itself where it is a name; and the name's text
abbrev pub u_name : List Ins
u_name = ins Addi 17 0 0 (pos 64) ∷ ins Lw 5 11 0 (pos 0) ∷ ins Andi 5 5 0 (pos 7) ∷ ins Addi 5 5 0 (negsuc 4) ∷ ins Bne 0 5 0 (pos 8) ∷ ins Ld 11 11 0 (pos 8) ∷ ins Ld 7 11 0 (pos 8) ∷ []

-- the range of a static string of n bytes
abbrev pub u_static : ℕ → ℕ → ℕ → List Ins
u_static p at n = la 11 p at ++ (ins Addi 11 11 0 (pos 8) ∷ ins Addi 12 0 0 (pos n) ∷ [])

-- the range of the text
abbrev pub u_text : List Ins
u_text = ins Addi 11 7 0 (pos 8) ∷ ins Lwu 12 7 0 (pos 4) ∷ []

abbrev pub u_exit : List Ins
u_exit = ins Addi 10 0 0 (pos 1) ∷ ins Addi 17 0 0 (pos 93) ∷ ins Ecall 0 0 0 (pos 0) ∷ []

-- the routine at place p, with the beginning and the end of the line among the data
abbrev pub uncaught_code : ℕ → ℕ → ℕ → List Ins
uncaught_code p front back = u_name ++ (u_static (p + 7) front 19 ++ (errors_code ++ (u_text ++ (errors_code ++ (u_static (p + 25) back 1 ++ (errors_code ++ u_exit))))))

-- A packet is a name, or has one in its first field.
pub data IsPacket (I : Emitted) (m : ℕ → ℕ) (x y : ℕ) : Type 0 where
  bare : x ≡ y → CanRead I x 4 → WordIs m x (4 + 4294967296 * 1) → IsPacket I m x y
  carried : CanRead I x 4 → CanRead I (x + 8) 8 → WordIs m x (5 + 4294967296 * 2) → WordIs m (x + 8) y → IsPacket I m x y

-- At p with a packet in x11, whose name has this text, and nothing written to the error stream.
pub record Thrown (I : Emitted) (front back top p : ℕ) (name : List ℕ) (x y t : ℕ) (a : Fine) : Type 0 where
  pub at : a.at ≡ p
  pub x0 : a.regs 0 ≡ 0
  pub x11 : a.regs 11 ≡ x
  pub packet : IsPacket I a.byte x y
  pub aligned : (x % 8 ≡ 0) × (y % 8 ≡ 0)
  pub small : (x < 2 ^ 62) × (y < 2 ^ 62)
  pub reads : CanRead I (y + 8) 8
  pub named : WordIs a.byte (y + 8) t
  pub text : StringIn I top a.byte t name
  pub begins : StringIn I top a.byte front (codes "uncaught exception ")
  pub ends : StringIn I top a.byte back (10 ∷ [])
  pub high : top ≤ end_at I
  pub to_front : Reaches (p + 7) front
  pub to_back : Reaches (p + 25) back
  pub err : a.err ≡ []

-- so many instructions at most
abbrev pub uncaught_most : List ℕ → ℕ
uncaught_most name = 142 + length name * 6

-- the run has ended so, with the line on the error stream and nothing else written
pub record EndsUncaught (I : Emitted) (most : ℕ) (name : List ℕ) (s : Spot) : Type 0 where
  pub count : ℕ
  pub few : count ≤ most
  pub to : Spot
  pub there : state_at (risc I.entries) s count ≡ to
  pub quiet : (k : ℕ) → k < count → (risc I.entries).pass (state_at (risc I.entries) s k) ≡ None
  pub stop : (risc I.entries).step to ≡ None
  pub is : (risc I.entries).end to ≡ Uncaught name
  pub err : to.world.err ≡ line_of name
  pub out : to.world.out ≡ s.world.out
