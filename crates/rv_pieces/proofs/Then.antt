-- Trips towards a goal: a loop by one rule, and each instruction in front of what follows.
use Rattle.std.proofs.Common.{◌≡◌, ◌≢◌, ℕ, zero, suc, ◌+◌, ◌-◌, ◌*◌, ◌/◌, ◌%◌, ◌^◌, ◌<◌, ◌≤◌, ◌==◌, min, ℤ, pos, List, length, take, Option, Some, None, Bool, true, false, not, arith, refl, sym, ap, ◌∙◌, subst, ⊎_elim, ◌⊎◌, inl, inr, length-take}
use Rattle.std.specs.Prelude.{slice_get, nat_lt, bit_and, bit_or, bit_xor}
use Rattle.std.specs.Int.{Width, byte_len, from_le_bytes, to_le_bytes}
use Rattle.std.proofs.Math.Nat.{suc-mul, mul-le-mul_right}
use Rattle.rv_isa.specs.declared.table.Op.{Op}
use Rattle.rv_isa.specs.declared.table.Op.TheVariants.{Lui, Auipc, Jal, Jalr, Beq, Bne, Blt, Bge, Bltu, Bgeu, Addi, Slti, Sltiu, Xori, Ori, Andi, Slli, Srli, Srai, Add, Sub, Slt, Sltu, Xor, Or, And, Mul, Mulh, Div, Rem, Addiw, Ecall}
use Rattle.rv_isa.specs.declared.word.Ins.{Ins}
use Rattle.rv_isa.specs.Word.{ins}
use Rattle.rv_machine.specs.Step.{wrapped, extended, is_less, as_signed, bit_of, shifted_right, signed_high, quotient, remainder, wide, low, value_by, test_by}
use Rattle.rv_machine.specs.Run.{moved}
use Rattle.simulation.proofs.Heaps.{with_other}
use Rattle.rv_run.specs.Seen.{listed_from}
use Rattle.rv_acts.specs.Emitted.{Emitted, base, CanRead, CanWrite}
use Rattle.rv_acts.specs.Fine.{IsKnown, AllKnown, Fine}
use Rattle.rv_acts.specs.Act.{load_width, load_signed, store_width, store_part, put, poke, go, link, told, taken, unknowns, Asks, Act, alu, load, store, load_any, store_any, falls, takes, turns, leaps, calls, tells, reads}
use Rattle.rv_acts.specs.Trip.{IsLow, Steady, stop, move}
use Rattle.rv_acts.proofs.Bytes.{bytes_out, unknowns_length}
use Rattle.rv_acts.proofs.Doing.{part_length, moved_most}
use Rattle.rv_acts.proofs.Trips.{trip_on, trip_steady}
use Rattle.rv_pieces.specs.Route.{Trips}

-- ---- values and tests that compute

abbrev pub value : Op → ℕ → ℕ → ℕ → ℕ → Option ℕ
value Lui a b n pc = Some n
value Auipc a b n pc = Some ((pc + n) % 2 ^ 64)
value Addi a b n pc = Some ((a + n) % 2 ^ 64)
value Slti a b n pc = Some (bit_of (is_less a n))
value Sltiu a b n pc = Some (bit_of (nat_lt a n))
value Xori a b n pc = Some (bit_xor a n)
value Ori a b n pc = Some (bit_or a n)
value Andi a b n pc = Some (bit_and a n)
value Slli a b n pc = Some (a * 2 ^ (n % 64) % 2 ^ 64)
value Srli a b n pc = Some (a / 2 ^ (n % 64))
value Srai a b n pc = Some (shifted_right a n)
value Add a b n pc = Some ((a + b) % 2 ^ 64)
value Sub a b n pc = Some ((a + (2 ^ 64 - b)) % 2 ^ 64)
value Slt a b n pc = Some (bit_of (is_less a b))
value Sltu a b n pc = Some (bit_of (nat_lt a b))
value Xor a b n pc = Some (bit_xor a b)
value Or a b n pc = Some (bit_or a b)
value And a b n pc = Some (bit_and a b)
value Mul a b n pc = Some (a * b % 2 ^ 64)
value Mulh a b n pc = Some (signed_high (as_signed a) (as_signed b))
value Div a b n pc = Some (quotient a b)
value Rem a b n pc = Some (remainder a b)
value Addiw a b n pc = Some (wide (low (a + n)))
value _ a b n pc = None

pub value_is : (op : Op) (a b n pc v : ℕ) → value op a b n pc ≡ Some v → value_by op a b n pc ≡ Some v
unfolding value_by
value_is Lui a b n pc v e = e
value_is Auipc a b n pc v e = e
value_is Addi a b n pc v e = e
value_is Slti a b n pc v e = e
value_is Sltiu a b n pc v e = e
value_is Xori a b n pc v e = e
value_is Ori a b n pc v e = e
value_is Andi a b n pc v e = e
value_is Slli a b n pc v e = e
value_is Srli a b n pc v e = e
value_is Srai a b n pc v e = e
value_is Add a b n pc v e = e
value_is Sub a b n pc v e = e
value_is Slt a b n pc v e = e
value_is Sltu a b n pc v e = e
value_is Or a b n pc v e = e
value_is And a b n pc v e = e
value_is Xor a b n pc v e = e
value_is Mul a b n pc v e = e
value_is Mulh a b n pc v e = e
value_is Div a b n pc v e = e
value_is Rem a b n pc v e = e
value_is Addiw a b n pc v e = e
value_is _ a b n pc v e = absurd (cc)

abbrev pub test : Op → ℕ → ℕ → Option Bool
test Beq a b = Some (a == b)
test Bne a b = Some (not (a == b))
test Blt a b = Some (is_less a b)
test Bge a b = Some (not (is_less a b))
test Bltu a b = Some (nat_lt a b)
test Bgeu a b = Some (not (nat_lt a b))
test _ a b = None

pub test_is : (op : Op) (a b : ℕ) (t : Bool) → test op a b ≡ Some t → test_by op a b ≡ Some t
unfolding test_by
test_is Beq a b t e = e
test_is Bne a b t e = e
test_is Blt a b t e = e
test_is Bge a b t e = e
test_is Bltu a b t e = e
test_is Bgeu a b t e = e
test_is _ a b t e = absurd (cc)

-- ---- towards a goal

module _ {I : Emitted} {Q : ℕ → Type 0} where
  pub finish : {Goal : Fine → Type 0} {most : ℕ} {a : Fine} → Goal a → Trips I Q Goal most a
  finish {Goal} {most} {a} g = record { to = a; count = 0; few = omega arith; trip = stop a; goal = g }

  pub one_more : {Goal : Fine → Type 0} {most : ℕ} {a : Fine} (i : Ins) (b : Fine) → slice_get I.code a.at ≡ Some i → Q a.at → Act I i a b → Steady I a b → Trips I Q Goal most b → Trips I Q Goal (suc most) a
  one_more {Goal} {most} {a} i b e q x s r = record { to = r.to; count = suc r.count; few = let l = r.few in omega arith; trip = move r.count i a b r.to e q x s r.trip; goal = r.goal }

  pub then_on : {Mid Goal : Fine → Type 0} (m n : ℕ) {a : Fine} → Trips I Q Mid m a → ((b : Fine) → Steady I a b → Mid b → Trips I Q Goal n b) → Trips I Q Goal (m + n) a
  then_on {Mid} {Goal} m n {a} r k =
      let t = k r.to (trip_steady I Q r.count a r.to r.trip) r.goal in
      record { to = t.to; count = r.count + t.count; few = let x = r.few in let y = t.few in omega arith; trip = trip_on I Q r.count t.count a r.to t.to r.trip t.trip; goal = t.goal }

  pub within : {Goal : Fine → Type 0} (m n : ℕ) {a : Fine} → m ≤ n → Trips I Q Goal m a → Trips I Q Goal n a
  within m n l r = record { to = r.to; count = r.count; few = let x = r.few in omega arith; trip = r.trip; goal = r.goal }

  pub to_goal : {Mid Goal : Fine → Type 0} (m : ℕ) {a : Fine} → ((b : Fine) → Steady I a b → Mid b → Goal b) → Trips I Q Mid m a → Trips I Q Goal m a
  to_goal m {a} k r = record { to = r.to; count = r.count; few = r.few; trip = r.trip; goal = k r.to (trip_steady I Q r.count a r.to r.trip) r.goal }

  -- A loop: with k left, a round of at most c instructions leaves fewer; with none left, at most e lead out.
  pub rounds : {Goal : Fine → Type 0} (P : ℕ → Fine → Type 0) (c e : ℕ) → ((k : ℕ) (a : Fine) → P (suc k) a → Trips I Q (λ b. (j : ℕ) × (j ≤ k) × P j b) c a) → ((a : Fine) → P 0 a → Trips I Q Goal e a) → (fuel k : ℕ) (a : Fine) → k ≤ fuel → P k a → Trips I Q Goal (k * c + e) a
  rounds P c e round out fuel zero a l h = within e (0 * c + e) (omega arith) (out a h)
  rounds P c e round out zero (suc k) a l h = absurd (omega arith)
  rounds P c e round out (suc fuel) (suc k) a l h =
      within (c + (k * c + e)) (suc k * c + e) (less k) (then_on c (k * c + e) (round k a h) (λ b s g. within (g.0 * c + e) (k * c + e) (fewer g.0 k g.1) (rounds P c e round out fuel g.0 b (let z = g.1 in omega arith) g.2)))
    where
      less : (k : ℕ) → c + (k * c + e) ≤ suc k * c + e
      less k = let z = suc-mul k c in omega arith

      fewer : (j k : ℕ) → j ≤ k → j * c + e ≤ k * c + e
      fewer j k l = let z = mul-le-mul_right c l in omega arith

  -- ---- each instruction, in front of what follows

  pub alu_then : {Goal : Fine → Type 0} {most : ℕ} {a : Fine} (i : Ins) (v : ℕ) → slice_get I.code a.at ≡ Some i → Q a.at → IsKnown (a.regs i.rs1) → IsKnown (a.regs i.rs2) → value i.op (a.regs i.rs1) (a.regs i.rs2) (wrapped i.imm) (base + 4 * a.at) ≡ Some v → i.rd ≢ 0 → i.rd ≢ 8 → Trips I Q Goal most (put i.rd v a) → Trips I Q Goal (suc most) a
  alu_then {Goal} {most} {a} i v e q k1 k2 h z y r = one_more i (put i.rd v a) e q (alu i a v k1 k2 (value_is i.op _ _ _ _ v h) z) (record { x0 = with_other a.regs i.rd v 0 (λ p. z (sym p)); x8 = with_other a.regs i.rd v 8 (λ p. y (sym p)); low = λ x l. refl }) r

  pub load_then : {Goal : Fine → Type 0} {most : ℕ} {a : Fine} (i : Ins) (w : Width) (x v : ℕ) → slice_get I.code a.at ≡ Some i → Q a.at → IsKnown (a.regs i.rs1) → load_width i.op ≡ Some w → (a.regs i.rs1 + wrapped i.imm) % 2 ^ 64 ≡ x → x % byte_len w ≡ 0 → CanRead I x (byte_len w) → AllKnown a.byte x (byte_len w) → extended (load_signed i.op) w (from_le_bytes w (listed_from a.byte x (byte_len w))) ≡ v → i.rd ≢ 0 → i.rd ≢ 8 → Trips I Q Goal most (put i.rd v a) → Trips I Q Goal (suc most) a
  load_then {Goal} {most} {a} i w x v e q k1 f at al h k ev z y r = one_more i (put i.rd v a) e q (subst (λ v. Act I i a (put i.rd v a)) ev (load i a w x k1 f at al h k z)) (record { x0 = with_other a.regs i.rd v 0 (λ p. z (sym p)); x8 = with_other a.regs i.rd v 8 (λ p. y (sym p)); low = λ x l. refl }) r

  -- what is stored lies above x8, or below the arena
  pub store_then : {Goal : Fine → Type 0} {most : ℕ} {a : Fine} (i : Ins) (w : Width) (x : ℕ) (new : List ℕ) → slice_get I.code a.at ≡ Some i → Q a.at → IsKnown (a.regs i.rs1) → IsKnown (a.regs i.rs2) → store_width i.op ≡ Some w → (a.regs i.rs1 + wrapped i.imm) % 2 ^ 64 ≡ x → x % byte_len w ≡ 0 → CanWrite I x (byte_len w) → to_le_bytes w (store_part i.op (a.regs i.rs2)) ≡ new → (a.regs 8 ≤ x) ⊎ (x + byte_len w ≤ I.entries.arena) → Trips I Q Goal most (poke x new a) → Trips I Q Goal (suc most) a
  store_then {Goal} {most} {a} i w x new e q k1 k2 f at al h en apart r = one_more i (poke x new a) e q (subst (λ new. Act I i a (poke x new a)) en (store i a w x k1 k2 f at al h)) (record { x0 = refl; x8 = refl; low = λ y l. bytes_out a.byte x new y (outside y l) }) r
    where
      n : length new ≡ byte_len w
      n = ap length (sym en) ∙ part_length w (store_part i.op (a.regs i.rs2))

      outside : (y : ℕ) → IsLow I (a.regs 8) y → (y < x) ⊎ (x + length new ≤ y)
      outside y (inl l) = let b = h.0 in inl (omega arith)
      outside y (inr l) = let b = l.0 in let c = l.1 in let z = n in ⊎_elim (λ (u : a.regs 8 ≤ x). inl (omega arith)) (λ (u : x + byte_len w ≤ I.entries.arena). inr (omega arith)) apart

  -- what isn't known may be saved, and loaded
  pub load_any_then : {Goal : Fine → Type 0} {most : ℕ} {a : Fine} (i : Ins) (w : Width) (x : ℕ) → slice_get I.code a.at ≡ Some i → Q a.at → IsKnown (a.regs i.rs1) → load_width i.op ≡ Some w → (a.regs i.rs1 + wrapped i.imm) % 2 ^ 64 ≡ x → x % byte_len w ≡ 0 → CanRead I x (byte_len w) → i.rd ≢ 0 → i.rd ≢ 8 → Trips I Q Goal most (put i.rd (2 ^ 64) a) → Trips I Q Goal (suc most) a
  load_any_then {Goal} {most} {a} i w x e q k1 f at al h z y r = one_more i (put i.rd (2 ^ 64) a) e q (load_any i a w x k1 f at al h z) (record { x0 = with_other a.regs i.rd (2 ^ 64) 0 (λ p. z (sym p)); x8 = with_other a.regs i.rd (2 ^ 64) 8 (λ p. y (sym p)); low = λ x l. refl }) r

  pub store_any_then : {Goal : Fine → Type 0} {most : ℕ} {a : Fine} (i : Ins) (w : Width) (x : ℕ) → slice_get I.code a.at ≡ Some i → Q a.at → IsKnown (a.regs i.rs1) → store_width i.op ≡ Some w → (a.regs i.rs1 + wrapped i.imm) % 2 ^ 64 ≡ x → x % byte_len w ≡ 0 → CanWrite I x (byte_len w) → (a.regs 8 ≤ x) ⊎ (x + byte_len w ≤ I.entries.arena) → Trips I Q Goal most (poke x (unknowns (byte_len w)) a) → Trips I Q Goal (suc most) a
  store_any_then {Goal} {most} {a} i w x e q k1 f at al h apart r = one_more i (poke x (unknowns (byte_len w)) a) e q (store_any i a w x k1 f at al h) (record { x0 = refl; x8 = refl; low = λ y l. bytes_out a.byte x (unknowns (byte_len w)) y (outside y l) }) r
    where
      outside : (y : ℕ) → IsLow I (a.regs 8) y → (y < x) ⊎ (x + length (unknowns (byte_len w)) ≤ y)
      outside y (inl l) = let b = h.0 in inl (omega arith)
      outside y (inr l) = let b = l.0 in let c = l.1 in let z = unknowns_length (byte_len w) in ⊎_elim (λ (u : a.regs 8 ≤ x). inl (omega arith)) (λ (u : x + byte_len w ≤ I.entries.arena). inr (omega arith)) apart

  pub falls_then : {Goal : Fine → Type 0} {most : ℕ} {a : Fine} (i : Ins) → slice_get I.code a.at ≡ Some i → Q a.at → IsKnown (a.regs i.rs1) → IsKnown (a.regs i.rs2) → test i.op (a.regs i.rs1) (a.regs i.rs2) ≡ Some false → Trips I Q Goal most (go (suc a.at) a) → Trips I Q Goal (suc most) a
  falls_then {Goal} {most} {a} i e q k1 k2 h r = one_more i (go (suc a.at) a) e q (falls i a k1 k2 (test_is i.op _ _ _ h)) (record { x0 = refl; x8 = refl; low = λ x l. refl }) r

  pub takes_then : {Goal : Fine → Type 0} {most : ℕ} {a : Fine} (i : Ins) (target : ℕ) → slice_get I.code a.at ≡ Some i → Q a.at → IsKnown (a.regs i.rs1) → IsKnown (a.regs i.rs2) → test i.op (a.regs i.rs1) (a.regs i.rs2) ≡ Some true → (base + 4 * a.at + wrapped i.imm) % 2 ^ 64 ≡ base + 4 * target → Trips I Q Goal most (go target a) → Trips I Q Goal (suc most) a
  takes_then {Goal} {most} {a} i target e q k1 k2 h z r = one_more i (go target a) e q (takes i a target k1 k2 (test_is i.op _ _ _ h) z) (record { x0 = refl; x8 = refl; low = λ x l. refl }) r

  pub turns_then : {Goal : Fine → Type 0} {most : ℕ} {a : Fine} (z : ℤ) (target : ℕ) → slice_get I.code a.at ≡ Some (ins Jal 0 0 0 z) → Q a.at → (base + 4 * a.at + wrapped z) % 2 ^ 64 ≡ base + 4 * target → Trips I Q Goal most (go target a) → Trips I Q Goal (suc most) a
  turns_then {Goal} {most} {a} z target e q h r = one_more _ (go target a) e q (turns z a target h) (record { x0 = refl; x8 = refl; low = λ x l. refl }) r

  pub leaps_then : {Goal : Fine → Type 0} {most : ℕ} {a : Fine} (rs target : ℕ) (z : ℤ) → slice_get I.code a.at ≡ Some (ins Jalr 0 rs 0 z) → Q a.at → IsKnown (a.regs rs) → (a.regs rs + wrapped z) % 2 ^ 64 ≡ base + 4 * target → Trips I Q Goal most (go target a) → Trips I Q Goal (suc most) a
  leaps_then {Goal} {most} {a} rs target z e q k h r = one_more _ (go target a) e q (leaps rs target z a k h) (record { x0 = refl; x8 = refl; low = λ x l. refl }) r

  pub calls_then : {Goal : Fine → Type 0} {most : ℕ} {a : Fine} (rd rs target : ℕ) (z : ℤ) → slice_get I.code a.at ≡ Some (ins Jalr rd rs 0 z) → Q a.at → rd ≢ 0 → rd ≢ 8 → IsKnown (a.regs rs) → (a.regs rs + wrapped z) % 2 ^ 64 ≡ base + 4 * target → Trips I Q Goal most (link rd target a) → Trips I Q Goal (suc most) a
  calls_then {Goal} {most} {a} rd rs target z e q d y k h r = one_more _ (link rd target a) e q (calls rd rs target z a d k h) (record { x0 = with_other a.regs rd (base + 4 * suc a.at) 0 (λ p. d (sym p)); x8 = with_other a.regs rd (base + 4 * suc a.at) 8 (λ p. y (sym p)); low = λ x l. refl }) r

  pub tells_then : {Goal : Fine → Type 0} {most : ℕ} {a : Fine} (to x m : ℕ) → slice_get I.code a.at ≡ Some (ins Ecall 0 0 0 (pos 0)) → Q a.at → (to ≡ 1) ⊎ (to ≡ 2) → Asks 64 to x m a → CanRead I x m → AllKnown a.byte x m → Trips I Q Goal most (told to x (moved a.cuts m) a) → Trips I Q Goal (suc most) a
  tells_then {Goal} {most} {a} to x m e q t ask h k r = one_more _ (told to x (moved a.cuts m) a) e q (tells to a x m t ask h k) (record { x0 = refl; x8 = refl; low = λ x l. refl }) r

  -- a read goes below the arena, or above x8
  pub reads_then : {Goal : Fine → Type 0} {most : ℕ} {a : Fine} (x m : ℕ) (bytes : List ℕ) → slice_get I.code a.at ≡ Some (ins Ecall 0 0 0 (pos 0)) → Q a.at → Asks 63 0 x m a → CanWrite I x m → a.input ≡ Some bytes → (a.regs 8 ≤ x) ⊎ (x + m ≤ I.entries.arena) → Trips I Q Goal most (taken x (moved a.cuts (min m (length bytes))) bytes a) → Trips I Q Goal (suc most) a
  reads_then {Goal} {most} {a} x m bytes e q ask h i apart r = one_more _ (taken x (moved a.cuts (min m (length bytes))) bytes a) e q (reads a x m bytes ask h i) (record { x0 = refl; x8 = refl; low = λ y l. bytes_out a.byte x (take (moved a.cuts (min m (length bytes))) bytes) y (outside y l) }) r
    where
      n : length (take (moved a.cuts (min m (length bytes))) bytes) ≤ m
      n = let z = moved_most a.cuts (min m (length bytes)) in simp length-take (omega arith)

      outside : (y : ℕ) → IsLow I (a.regs 8) y → (y < x) ⊎ (x + length (take (moved a.cuts (min m (length bytes))) bytes) ≤ y)
      outside y (inl l) = let b = h.0 in inl (omega arith)
      outside y (inr l) = let b = l.0 in let c = l.1 in let z = n in ⊎_elim (λ (u : a.regs 8 ≤ x). inl (omega arith)) (λ (u : x + m ≤ I.entries.arena). inr (omega arith)) apart
