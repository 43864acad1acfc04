-- A step depends on no byte that it may not execute or read.
use Rattle.std.proofs.Common.{◌≡◌, ◌||◌, if◌then◌else◌, ℕ, ◌+◌, ◌%◌, ◌^◌, List, [], Option, Some, None, Bool, true, false, ◌==◌, refl, sym, ap, ◌∙◌, inl, inr}
use Rattle.std.specs.Prelude.{slice_range, slice_set}
use Rattle.std.specs.Int.{Width, w8, w16, w32, w64, byte_len, from_le_bytes, to_le_bytes}
use Rattle.rv_isa.specs.declared.table.Op.{Op}
use Rattle.rv_isa.specs.declared.table.Op.TheVariants.{Jal, Jalr, Lb, Lh, Lw, Ld, Lbu, Lhu, Lwu, Sb, Sh, Sw, Sd, Fence, Ecall}
use Rattle.rv_isa.specs.declared.word.Ins.{Ins}
use Rattle.rv_isa.specs.Word.{decoded}
use Rattle.rv_machine.specs.declared.hart.Next.{Next}
use Rattle.rv_machine.specs.declared.hart.Next.TheVariants.{Going, Exit, Trap, Read, Write}
use Rattle.rv_machine.specs.State.{State, reg, with_reg, next, located, overwritten}
use Rattle.rv_machine.specs.Step.{Outcome, goes, writes, step_of, executed, wrapped, extended, value_by, test_by, rest_by, done_in, done_by, performed, fetched, called, jumps, branches, loads, loaded, stores, stored, reads, asks_read, prints, asks_write}
use Rattle.rv_machine.specs.Laws.{AgreesWhereSeen, StepsAlike}
use Rattle.rv_machine.proofs.Text.{overwritten_none, with_reg-bytes}

module _ (s : State) (bytes : List ℕ) where
  -- the state with the other bytes
  abbrev t : State
  t = record s { bytes = bytes }

  -- what was done to the one was done to the other
  record Alike (o p : Outcome) : Type 0 where
    place : ℕ
    new : List ℕ
    here : o.1.bytes ≡ overwritten place new s.bytes
    there : p ≡ (o.0, record o.1 { bytes = overwritten place new bytes })

  -- no byte was changed
  unchanged : (x : Next) (u : State) (p : Outcome) → u.bytes ≡ s.bytes → p ≡ (x, record u { bytes = bytes }) → Alike (x, u) p
  unchanged x u p e f = record {
    place = 0;
    new = [];
    here = e ∙ sym (overwritten_none s.bytes);
    there = f ∙ ap (λ bs. (x, record u { bytes = bs })) (sym (overwritten_none bytes));
  }

  same : (x : Next) → Alike (x, s) (x, t)
  same x = unchanged x s (x, t) refl refl

  choose : (b : Bool) (x y x' y' : Outcome) → Alike x x' → Alike y y' → Alike (if b then x else y) (if b then x' else y')
  choose true x y x' y' p q = p
  choose false x y x' y' p q = q

  with_reg-over : (rd v : ℕ) → with_reg rd v t ≡ record (with_reg rd v s) { bytes = bytes }
  with_reg-over rd v = either (rd == 0)
    where
      either : (b : Bool) → (if b then t else record t { regs = slice_set s.regs rd v }) ≡ record (if b then s else record s { regs = slice_set s.regs rd v }) { bytes = bytes }
      either true = refl
      either false = refl

  alike_goes : Alike (goes s) (goes t)
  alike_goes = unchanged Going (next s) (goes t) refl refl

  alike_writes : (rd v : ℕ) → Alike (writes rd v s) (writes rd v t)
  alike_writes rd v = unchanged Going (next (with_reg rd v s)) (writes rd v t) (with_reg-bytes rd v s) (ap (λ u. (Going, next u)) (with_reg-over rd v))

  alike_jumps : (rd target : ℕ) → Alike (jumps rd target s) (jumps rd target t)
  alike_jumps rd target =
      let v = (s.pc + 4) % 2 ^ 64 in
      choose (target % 4 == 0) _ _ _ _
      (unchanged Going (record (with_reg rd v s) { pc = target }) (Going, record (with_reg rd v t) { pc = target }) (with_reg-bytes rd v s) (ap (λ (u : State). (Going, record u { pc = target })) (with_reg-over rd v)))
      (same Trap)

  alike_branches : (taken : Bool) (n : ℕ) → Alike (branches taken n s) (branches taken n t)
  alike_branches true n = alike_jumps 0 _
  alike_branches false n = alike_goes

  alike_stored : (w : Width) (v : ℕ) (o : Option ℕ) → Alike (stored w v o s) (stored w v o t)
  alike_stored w v None = same Trap
  alike_stored w v (Some k) = record { place = k; new = to_le_bytes w v; here = refl; there = refl }

  alike_stores : (w : Width) (v a : ℕ) → Alike (stores w v a s) (stores w v a t)
  alike_stores w v a = choose (a % byte_len w == 0) _ _ _ _ (alike_stored w v (located s 2 a (byte_len w))) (same Trap)

  alike_asks_read : (size : ℕ) (o : Option ℕ) → Alike (asks_read size o s) (asks_read size o t)
  alike_asks_read size None = same Trap
  alike_asks_read size (Some k) = same (Read k size)

  alike_asks_write : (to size : ℕ) (o : Option ℕ) → Alike (asks_write to size o s) (asks_write to size o t)
  alike_asks_write to size None = same Trap
  alike_asks_write to size (Some k) = same (Write to k size)

  alike_reads : Alike (reads s) (reads t)
  alike_reads = choose (reg s 10 == 0) _ _ _ _ (choose (reg s 12 == 0) _ _ _ _ (alike_writes 10 0) (alike_asks_read (reg s 12) (located s 2 (reg s 11) (reg s 12)))) (same Trap)

  alike_prints : Alike (prints s) (prints t)
  alike_prints = choose (reg s 10 == 1 || reg s 10 == 2) _ _ _ _ (choose (reg s 12 == 0) _ _ _ _ (alike_writes 10 0) (alike_asks_write (reg s 10) (reg s 12) (located s 4 (reg s 11) (reg s 12)))) (same Trap)

  alike_called : Alike (called s) (called t)
  unfolding called
  alike_called = choose (reg s 17 == 93) _ _ _ _ (same (Exit (reg s 10 % 256))) (choose (reg s 17 == 64) _ _ _ _ alike_prints (choose (reg s 17 == 63) _ _ _ _ alike_reads (same Trap)))

  module _ (agrees : AgreesWhereSeen s bytes) where
    alike_loaded : (signed : Bool) (w : Width) (rd a : ℕ) (o : Option ℕ) → located s 4 a (byte_len w) ≡ o → Alike (loaded signed w rd o s) (loaded signed w rd o t)
    alike_loaded signed w rd a None e = same Trap
    alike_loaded signed w rd a (Some k) e =
        rw (agrees 4 a (byte_len w) k (inr refl) e) (alike_writes rd (extended signed w (from_le_bytes w (slice_range s.bytes k (k + byte_len w)))))

    alike_loads : (signed : Bool) (w : Width) (rd a : ℕ) → Alike (loads signed w rd a s) (loads signed w rd a t)
    alike_loads signed w rd a = choose (a % byte_len w == 0) _ _ _ _ (alike_loaded signed w rd a (located s 4 a (byte_len w)) refl) (same Trap)

    alike_rest : (op : Op) (rd a b n : ℕ) → Alike (rest_by op rd a b n s) (rest_by op rd a b n t)
    unfolding rest_by
    alike_rest Jal rd a b n = alike_jumps rd _
    alike_rest Jalr rd a b n = alike_jumps rd _
    alike_rest Lb rd a b n = alike_loads true w8 rd _
    alike_rest Lh rd a b n = alike_loads true w16 rd _
    alike_rest Lw rd a b n = alike_loads true w32 rd _
    alike_rest Ld rd a b n = alike_loads false w64 rd _
    alike_rest Lbu rd a b n = alike_loads false w8 rd _
    alike_rest Lhu rd a b n = alike_loads false w16 rd _
    alike_rest Lwu rd a b n = alike_loads false w32 rd _
    alike_rest Sb rd a b n = alike_stores w8 _ _
    alike_rest Sh rd a b n = alike_stores w16 _ _
    alike_rest Sw rd a b n = alike_stores w32 _ _
    alike_rest Sd rd a b n = alike_stores w64 _ _
    alike_rest Fence rd a b n = alike_goes
    alike_rest Ecall rd a b n = alike_called
    alike_rest _ rd a b n = same Trap

    alike_done_in : (o : Option ℕ) (test : Option Bool) (x y : Outcome) (rd n : ℕ) → Alike x y → Alike (done_in o test x rd n s) (done_in o test y rd n t)
    alike_done_in (Some v) test x y rd n h = alike_writes rd v
    alike_done_in None (Some taken) x y rd n h = alike_branches taken n
    alike_done_in None None x y rd n h = h

    alike_performed : (o : Option Ins) → Alike (performed o s) (performed o t)
    unfolding executed done_by
    alike_performed None = same Trap
    alike_performed (Some i) =
        let a = reg s i.rs1 in
        let b = reg s i.rs2 in
        let n = wrapped i.imm in
        alike_done_in (value_by i.op a b n s.pc) (test_by i.op a b) (rest_by i.op i.rd a b n s) (rest_by i.op i.rd a b n t) i.rd n (alike_rest i.op i.rd a b n)

    alike_fetched : (o : Option ℕ) → located s 1 s.pc 4 ≡ o → Alike (fetched o s) (fetched o t)
    alike_fetched None e = same Trap
    alike_fetched (Some k) e = rw (agrees 1 s.pc 4 k (inl refl) e) (alike_performed (decoded (from_le_bytes w32 (slice_range s.bytes k (k + 4)))))

    alike_step : Alike (step_of s) (step_of t)
    unfolding step_of
    alike_step = choose (s.pc % 4 == 0) _ _ _ _ (alike_fetched (located s 1 s.pc 4) refl) (same Trap)

    pub step_of-alike : StepsAlike s bytes
    step_of-alike = let h = alike_step in record { place = h.place; new = h.new; here = h.here; there = h.there }
