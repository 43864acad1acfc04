-- Acts: what one instruction does to what is known. Each asks that what it needs is known.
use Rattle.std.specs.Prelude.{◌≡◌, ◌≢◌, ℕ, ℤ, pos, zero, suc, ◌+◌, ◌*◌, ◌%◌, ◌^◌, ◌<◌, ◌⊎◌, ◌==◌, min, if◌then◌else◌, Bool, true, false, List, [], ◌∷◌, ◌++◌, length, take, drop, Option, Some, None}
use Rattle.std.specs.Int.{Width, w8, w16, w32, w64, byte_len, from_le_bytes, to_le_bytes}
use Rattle.rv_isa.specs.declared.table.Op.{Op}
use Rattle.rv_isa.specs.declared.table.Op.TheVariants.{Jal, Jalr, Lb, Lh, Lw, Ld, Lbu, Lhu, Lwu, Sb, Sh, Sw, Sd, Ecall}
use Rattle.rv_isa.specs.declared.word.Ins.{Ins}
use Rattle.rv_isa.specs.Word.{ins}
use Rattle.rv_machine.specs.Step.{wrapped, extended, value_by, test_by}
use Rattle.rv_machine.specs.Run.{moved, later}
use Rattle.rv_run.specs.Seen.{listed_from}
use Rattle.rv_acts.specs.Emitted.{Emitted, base, CanRead, CanWrite}
use Rattle.rv_acts.specs.Fine.{IsKnown, AllKnown, with_value, with_bytes, Fine}

-- ---- loads and stores

abbrev pub load_width : Op → Option Width
load_width Lb = Some w8
load_width Lh = Some w16
load_width Lw = Some w32
load_width Ld = Some w64
load_width Lbu = Some w8
load_width Lhu = Some w16
load_width Lwu = Some w32
load_width _ = None

abbrev pub load_signed : Op → Bool
load_signed Lb = true
load_signed Lh = true
load_signed Lw = true
load_signed _ = false

abbrev pub store_width : Op → Option Width
store_width Sb = Some w8
store_width Sh = Some w16
store_width Sw = Some w32
store_width Sd = Some w64
store_width _ = None

-- the part of a register that is stored
abbrev pub store_part : Op → ℕ → ℕ
store_part Sb b = b % 2 ^ 8
store_part Sh b = b % 2 ^ 16
store_part Sw b = b % 2 ^ 32
store_part _ b = b

-- ---- what changes

abbrev pub put : ℕ → ℕ → Fine → Fine
put rd v a = record a { regs = with_value a.regs rd v; at = suc a.at }

abbrev pub poke : ℕ → List ℕ → Fine → Fine
poke x new a = record a { byte = with_bytes a.byte x new; at = suc a.at }

abbrev pub go : ℕ → Fine → Fine
go n a = record a { at = n }

-- a jump that keeps the address behind it
abbrev pub link : ℕ → ℕ → Fine → Fine
link rd target a = record a { regs = with_value a.regs rd (base + 4 * suc a.at); at = target }

-- n bytes from x on were written: to the output, or to the error stream
abbrev pub told : ℕ → ℕ → ℕ → Fine → Fine
told to x n a = record a {
  regs = with_value a.regs 10 n;
  at = suc a.at;
  out = if to == 1 then a.out ++ listed_from a.byte x n else a.out;
  err = if to == 1 then a.err else a.err ++ listed_from a.byte x n;
  cuts = later a.cuts;
}

-- the first n bytes of the input were read to x
abbrev pub taken : ℕ → ℕ → List ℕ → Fine → Fine
taken x n bytes a = record a {
  regs = with_value a.regs 10 n;
  at = suc a.at;
  byte = with_bytes a.byte x (take n bytes);
  input = Some (drop n bytes);
  cuts = later a.cuts;
}

-- so many bytes that aren't known
abbrev pub unknowns : ℕ → List ℕ
unknowns zero = []
unknowns (suc n) = 256 ∷ unknowns n

-- x11 and x12 have a range of so many bytes, and x17 and x10 the call and its stream
pub record Asks (call stream x m : ℕ) (a : Fine) : Type 0 where
  pub x17 : a.regs 17 ≡ call
  pub x10 : a.regs 10 ≡ stream
  pub x11 : a.regs 11 ≡ x
  pub x12 : a.regs 12 ≡ m
  pub from : IsKnown x
  pub many : IsKnown m
  pub some : 0 < m

-- ---- acts

pub data Act (I : Emitted) : Ins → Fine → Fine → Type 0 where
  alu : (i : Ins) (a : Fine) (v : ℕ) → IsKnown (a.regs i.rs1) → IsKnown (a.regs i.rs2) → value_by i.op (a.regs i.rs1) (a.regs i.rs2) (wrapped i.imm) (base + 4 * a.at) ≡ Some v → i.rd ≢ 0 → Act I i a (put i.rd v a)
  load : (i : Ins) (a : Fine) (w : Width) (x : ℕ) → IsKnown (a.regs i.rs1) → load_width i.op ≡ Some w → (a.regs i.rs1 + wrapped i.imm) % 2 ^ 64 ≡ x → x % byte_len w ≡ 0 → CanRead I x (byte_len w) → AllKnown a.byte x (byte_len w) → i.rd ≢ 0 → Act I i a (put i.rd (extended (load_signed i.op) w (from_le_bytes w (listed_from a.byte x (byte_len w)))) a)
  store : (i : Ins) (a : Fine) (w : Width) (x : ℕ) → IsKnown (a.regs i.rs1) → IsKnown (a.regs i.rs2) → store_width i.op ≡ Some w → (a.regs i.rs1 + wrapped i.imm) % 2 ^ 64 ≡ x → x % byte_len w ≡ 0 → CanWrite I x (byte_len w) → Act I i a (poke x (to_le_bytes w (store_part i.op (a.regs i.rs2))) a)
  -- what isn't known may be loaded and stored
  load_any : (i : Ins) (a : Fine) (w : Width) (x : ℕ) → IsKnown (a.regs i.rs1) → load_width i.op ≡ Some w → (a.regs i.rs1 + wrapped i.imm) % 2 ^ 64 ≡ x → x % byte_len w ≡ 0 → CanRead I x (byte_len w) → i.rd ≢ 0 → Act I i a (put i.rd (2 ^ 64) a)
  store_any : (i : Ins) (a : Fine) (w : Width) (x : ℕ) → IsKnown (a.regs i.rs1) → store_width i.op ≡ Some w → (a.regs i.rs1 + wrapped i.imm) % 2 ^ 64 ≡ x → x % byte_len w ≡ 0 → CanWrite I x (byte_len w) → Act I i a (poke x (unknowns (byte_len w)) a)
  -- a branch
  falls : (i : Ins) (a : Fine) → IsKnown (a.regs i.rs1) → IsKnown (a.regs i.rs2) → test_by i.op (a.regs i.rs1) (a.regs i.rs2) ≡ Some false → Act I i a (go (suc a.at) a)
  takes : (i : Ins) (a : Fine) (target : ℕ) → IsKnown (a.regs i.rs1) → IsKnown (a.regs i.rs2) → test_by i.op (a.regs i.rs1) (a.regs i.rs2) ≡ Some true → (base + 4 * a.at + wrapped i.imm) % 2 ^ 64 ≡ base + 4 * target → Act I i a (go target a)
  -- a jump, and one that links
  turns : (z : ℤ) (a : Fine) (target : ℕ) → (base + 4 * a.at + wrapped z) % 2 ^ 64 ≡ base + 4 * target → Act I (ins Jal 0 0 0 z) a (go target a)
  leaps : (rs target : ℕ) (z : ℤ) (a : Fine) → IsKnown (a.regs rs) → (a.regs rs + wrapped z) % 2 ^ 64 ≡ base + 4 * target → Act I (ins Jalr 0 rs 0 z) a (go target a)
  calls : (rd rs target : ℕ) (z : ℤ) (a : Fine) → rd ≢ 0 → IsKnown (a.regs rs) → (a.regs rs + wrapped z) % 2 ^ 64 ≡ base + 4 * target → Act I (ins Jalr rd rs 0 z) a (link rd target a)
  -- a write, and a read of an input that is told
  tells : (to : ℕ) (a : Fine) (x m : ℕ) → (to ≡ 1) ⊎ (to ≡ 2) → Asks 64 to x m a → CanRead I x m → AllKnown a.byte x m → Act I (ins Ecall 0 0 0 (pos 0)) a (told to x (moved a.cuts m) a)
  reads : (a : Fine) (x m : ℕ) (bytes : List ℕ) → Asks 63 0 x m a → CanWrite I x m → a.input ≡ Some bytes → Act I (ins Ecall 0 0 0 (pos 0)) a (taken x (moved a.cuts (min m (length bytes))) bytes a)
