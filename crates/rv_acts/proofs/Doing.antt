-- An act is done by the machine.
use Rattle.std.proofs.Common.{◌≡◌, ◌≢◌, ℕ, suc, ◌+◌, ◌-◌, ◌*◌, ◌/◌, ◌%◌, ◌^◌, ◌<◌, ◌≤◌, min, ℤ, pos, List, [], ◌∷◌, ◌++◌, length, take, drop, get_or, Some, Bool, true, false, ◌==◌, if◌then◌else◌, arith, refl, sym, ap, ◌∙◌, subst, ⊎_elim, ◌⊎◌, inl, inr, eqb-true, length-take}
use Rattle.std.specs.Prelude.{slice_get, slice_range, slice_set, slice_index}
use Rattle.std.specs.Int.{Width, w8, w16, w32, w64, w128, byte_len, from_le_bytes, to_le_bytes}
use Rattle.std.proofs.lemmas.Bool.Decides.{nat_tests}
use Rattle.std.proofs.lemmas.Bool.{cases_lt}
use Rattle.std.proofs.lemmas.List.{get_or-set_same, get_or-set_other}
use Rattle.std.proofs.lemmas.Option.{slice_get_within}
use Rattle.std.proofs.Math.ListN.{length-set}
use Rattle.rv_isa.specs.declared.table.Op.{Op}
use Rattle.rv_isa.specs.declared.table.Op.TheVariants.{Jal, Jalr, Lb, Lh, Lw, Ld, Lbu, Lhu, Lwu, Sb, Sh, Sw, Sd, Ecall}
use Rattle.rv_isa.specs.declared.word.Ins.{Ins}
use Rattle.rv_isa.specs.Table.{shape_of}
use Rattle.rv_isa.specs.Word.{ins}
use Rattle.rv_isa.proofs.Formats.{FitsAs-registers}
use Rattle.rv_machine.specs.declared.hart.Next.TheVariants.{Going, Exit, Read, Write}
use Rattle.rv_machine.specs.State.{State, reg, with_reg, located, overwritten}
use Rattle.rv_machine.specs.Step.{Outcome, wrapped, executed, value_by, test_by, rest_by, done_by, step_of, writes, goes, jumps, loads, stores, extended, called}
use Rattle.rv_machine.specs.Run.{Cut, moved, later, turned, Turn, read_of, with_read, after_write}
use Rattle.rv_machine.specs.Laws.{StandsAt}
use Rattle.rv_machine.proofs.Text.{step_of-standing}
use Rattle.rv_machine.proofs.Parts.{done_value, done_test}
use Rattle.rv_machine.proofs.Lists.{length-overwritten, range_below}
use Rattle.simulation.proofs.Heaps.{with_same, with_other, eq_cases}
use Rattle.rv_run.specs.Seen.{listed_from}
use Rattle.rv_run.specs.Run.{Spot, risc, goes_to, spot_of, mend_end}
use Rattle.rv_acts.specs.Emitted.{Emitted, base, IsLaid, CanRead, CanWrite, spot_at}
use Rattle.rv_acts.specs.Fine.{IsKnown, AllKnown, with_value, with_bytes, Fine, Shown}
use Rattle.rv_acts.specs.Act.{load_width, load_signed, store_width, store_part, put, poke, go, link, told, taken, unknowns, Asks, Act, alu, load, store, load_any, store_any, falls, takes, turns, leaps, calls, tells, reads}
use Rattle.rv_acts.specs.Laws.{Done, Exits}
use Rattle.rv_acts.proofs.Bytes.{over_in, over_out, bytes_in, bytes_out, unknowns_length, unknowns_at, spot_high, spot_low, found_text, can_read_found, can_write_found, spot_in, range_is}

abbrev pub at_state : Spot → State → Spot
at_state s t = record { world = record s.world { state = t }; cuts = s.cuts }

pub spot_step : (I : Emitted) (s : Spot) (t : State) → step_of s.world.state ≡ (Going, t) → (risc I.entries).step s ≡ Some (at_state s t)
spot_step I s t e = ap (λ (o : Outcome). let u = turned o.0 o.1 s.world s.cuts in goes_to u.mend (spot_of u)) e

-- ---- that is what the machine does

some_eq : {X : Type 0} (x y : X) → Some x ≡ Some y → x ≡ y
some_eq x y e = cc

done_load : (op : Op) (rd a b n : ℕ) (w : Width) (s : State) → load_width op ≡ Some w → done_by op rd a b n s ≡ loads (load_signed op) w rd ((a + n) % 2 ^ 64) s
unfolding done_by value_by test_by rest_by
done_load Lb rd a b n w s e = ap (λ w. loads true w rd ((a + n) % 2 ^ 64) s) (some_eq _ w e)
done_load Lh rd a b n w s e = ap (λ w. loads true w rd ((a + n) % 2 ^ 64) s) (some_eq _ w e)
done_load Lw rd a b n w s e = ap (λ w. loads true w rd ((a + n) % 2 ^ 64) s) (some_eq _ w e)
done_load Ld rd a b n w s e = ap (λ w. loads false w rd ((a + n) % 2 ^ 64) s) (some_eq _ w e)
done_load Lbu rd a b n w s e = ap (λ w. loads false w rd ((a + n) % 2 ^ 64) s) (some_eq _ w e)
done_load Lhu rd a b n w s e = ap (λ w. loads false w rd ((a + n) % 2 ^ 64) s) (some_eq _ w e)
done_load Lwu rd a b n w s e = ap (λ w. loads false w rd ((a + n) % 2 ^ 64) s) (some_eq _ w e)
done_load _ rd a b n w s e = absurd (cc)

done_store : (op : Op) (rd a b n : ℕ) (w : Width) (s : State) → store_width op ≡ Some w → done_by op rd a b n s ≡ stores w (store_part op b) ((a + n) % 2 ^ 64) s
unfolding done_by value_by test_by rest_by
done_store Sb rd a b n w s e = ap (λ w. stores w (b % 2 ^ 8) ((a + n) % 2 ^ 64) s) (some_eq _ w e)
done_store Sh rd a b n w s e = ap (λ w. stores w (b % 2 ^ 16) ((a + n) % 2 ^ 64) s) (some_eq _ w e)
done_store Sw rd a b n w s e = ap (λ w. stores w (b % 2 ^ 32) ((a + n) % 2 ^ 64) s) (some_eq _ w e)
done_store Sd rd a b n w s e = ap (λ w. stores w b ((a + n) % 2 ^ 64) s) (some_eq _ w e)
done_store _ rd a b n w s e = absurd (cc)

reg_of : (s : State) (n : ℕ) → n ≢ 0 → reg s n ≡ slice_index s.regs n
reg_of s n h = go_on (n == 0) (eqb-true n 0)
  where
    go_on : (b : Bool) → (b ≡ true → n ≡ 0) → (if b then 0 else slice_index s.regs n) ≡ slice_index s.regs n
    go_on true e = absurd (h (e refl))
    go_on false e = refl

with_reg_eq : (rd v : ℕ) (s : State) → rd ≢ 0 → with_reg rd v s ≡ record s { regs = slice_set s.regs rd v }
with_reg_eq rd v s h = go_on (rd == 0) (eqb-true rd 0)
  where
    go_on : (b : Bool) → (b ≡ true → rd ≡ 0) → (if b then s else record s { regs = slice_set s.regs rd v }) ≡ record s { regs = slice_set s.regs rd v }
    go_on true e = absurd (h (e refl))
    go_on false e = refl

pub width_some : (w : Width) → 0 < byte_len w
width_some w8 = omega arith
width_some w16 = omega arith
width_some w32 = omega arith
width_some w64 = omega arith
width_some w128 = omega arith

pub part_length : (w : Width) (v : ℕ) → length (to_le_bytes w v) ≡ byte_len w
part_length w8 v = refl
part_length w16 v = refl
part_length w32 v = refl
part_length w64 v = refl
part_length w128 v = refl

pub moved_most : (cs : List Cut) (m : ℕ) → moved cs m ≤ m
moved_most [] m = omega arith
moved_most (c ∷ cs) m = omega arith

pub moved_some : (cs : List Cut) (m : ℕ) → 0 < m → (0 < moved cs m) × (moved cs m ≤ m)
moved_some [] m h = (h, omega arith)
moved_some (c ∷ cs) m h = (omega arith, omega arith)

-- less may be known
pub shown_less : (I : Emitted) (a b : Fine) (s : Spot) → Shown I a s → b.at ≡ a.at → ((n : ℕ) → IsKnown (b.regs n) → b.regs n ≡ a.regs n) → ((x : ℕ) → b.byte x < 256 → b.byte x ≡ a.byte x) → b.input ≡ a.input → b.out ≡ a.out → b.err ≡ a.err → b.cuts ≡ a.cuts → Shown I b s
shown_less I a b s m at regs bytes input out err cuts = record {
  regs = λ n l k. m.regs n l (subst IsKnown (regs n k) k) ∙ sym (regs n k);
  many = m.many;
  pc = m.pc ∙ ap (λ n. base + 4 * n) (sym at);
  areas = m.areas;
  size = m.size;
  text = m.text;
  byte = λ x r k. m.byte x r (subst (λ v. v < 256) (bytes x k) k) ∙ sym (bytes x k);
  input = m.input ∙ sym input;
  out = m.out ∙ sym out;
  err = m.err ∙ sym err;
  cuts = m.cuts ∙ sym cuts;
}

module _ (I : Emitted) (laid : IsLaid I) (a : Fine) (s : Spot) (m : Shown I a s) where
  stands : (i : Ins) → slice_get I.code a.at ≡ Some i → StandsAt s.world.state i
  stands i e =
      let w : a.at < length I.code = slice_get_within I.code a.at i e in
      record {
        aligned = rw m.pc (omega arith);
        place = 4 * a.at;
        placed = rw (m.areas, m.pc) (found_text (length I.code) I.entries.arena I.entries.arena_words I.place (length I.literals) a.at w);
        word = m.text a.at i e;
      }

  -- a register is written
  shown_put : (rd v pc n : ℕ) → rd ≢ 0 → rd < 32 → pc ≡ base + 4 * n → Shown I (record (put rd v a) { at = n }) (at_state s (record s.world.state { regs = slice_set s.world.state.regs rd v; pc = pc }))
  shown_put rd v pc n h l e = record {
    regs = λ k w kn. ⊎_elim
        (λ (q : k ≡ rd). subst (λ k. reg (record s.world.state { regs = slice_set s.world.state.regs rd v; pc = pc }) k ≡ with_value a.regs rd v k) (sym q)
        (reg_of (record s.world.state { regs = slice_set s.world.state.regs rd v; pc = pc }) rd h ∙ get_or-set_same s.world.state.regs rd v 0 (let z = m.many in omega arith) ∙ sym (with_same a.regs rd v)))
        (λ (q : k ≢ rd). ap (λ x. if k == 0 then 0 else x) (get_or-set_other s.world.state.regs rd k v 0 q) ∙ m.regs k w (subst IsKnown (with_other a.regs rd v k q) kn) ∙ sym (with_other a.regs rd v k q))
        (eq_cases k rd);
    many = length-set s.world.state.regs rd v ∙ m.many;
    pc = e;
    areas = m.areas;
    size = m.size;
    text = m.text;
    byte = m.byte;
    input = m.input;
    out = m.out;
    err = m.err;
    cuts = m.cuts;
  }

  shown_go : (pc n : ℕ) → pc ≡ base + 4 * n → Shown I (go n a) (at_state s (record s.world.state { pc = pc }))
  shown_go pc n e = record { regs = m.regs; many = m.many; pc = e; areas = m.areas; size = m.size; text = m.text; byte = m.byte; input = m.input; out = m.out; err = m.err; cuts = m.cuts }

  -- bytes are written
  shown_poke : (x : ℕ) (new : List ℕ) (pc : ℕ) → CanWrite I x (length new) → pc ≡ base + 4 * suc a.at → Shown I (poke x new a) (at_state s (record s.world.state { bytes = overwritten (spot_at I x) new s.world.state.bytes; pc = pc }))
  shown_poke x new pc h e =
      let room' : spot_at I x + length new ≤ length s.world.state.bytes = let y = m.size in let above = laid.above in let low = h.0 in let high = h.1 in let f = spot_high (length I.code) I.entries.arena I.place (length I.literals) x h.0 in omega arith in
      record {
        regs = m.regs;
        many = m.many;
        pc = e;
        areas = m.areas;
        size = length-overwritten s.world.state.bytes new (spot_at I x) room' ∙ m.size;
        text = λ n i q.
            let w : n < length I.code = slice_get_within I.code n i q in
            ap (from_le_bytes w32) (range_below s.world.state.bytes new (spot_at I x) room' (4 * n) (4 * n + 4) (let f = spot_high (length I.code) I.entries.arena I.place (length I.literals) x h.0 in omega arith)) ∙ m.text n i q;
        byte = λ y r k. ⊎_elim
            (λ (q : (x ≤ y) × (y < x + length new)). inside room' y q.0 q.1)
            (λ (q : (y < x) ⊎ (x + length new ≤ y)). over_out (spot_at I x) new s.world.state.bytes room' (spot_at I y) (apart y r q) ∙ m.byte y r (subst (λ v. v < 256) (bytes_out a.byte x new y q) k) ∙ sym (bytes_out a.byte x new y q))
            (cases y);
        input = m.input;
        out = m.out;
        err = m.err;
        cuts = m.cuts;
      }
    where
      cases : (y : ℕ) → ((x ≤ y) × (y < x + length new)) ⊎ ((y < x) ⊎ (x + length new ≤ y))
      cases y = ⊎_elim (λ (q : y < x). inr (inl q)) (λ (q : x ≤ y). ⊎_elim (λ (u : y < x + length new). inl (q, u)) (λ (u : x + length new ≤ y). inr (inr u)) (cases_lt y (x + length new))) (cases_lt y x)

      inside : spot_at I x + length new ≤ length s.world.state.bytes → (y : ℕ) → x ≤ y → y < x + length new → get_or (overwritten (spot_at I x) new s.world.state.bytes) (spot_at I y) 0 ≡ with_bytes a.byte x new y
      inside room' y l u =
          let f : spot_at I (x + (y - x)) ≡ spot_at I x + (y - x) = (spot_in I laid x (length new) (y - x) (inr h) (omega arith)).0 in
          let g : x + (y - x) ≡ y = omega arith in
          let j : spot_at I y ≡ spot_at I x + (y - x) = ap (spot_at I) (sym g) ∙ f in
          ap (λ k. get_or (overwritten (spot_at I x) new s.world.state.bytes) k 0) j ∙ over_in (spot_at I x) new s.world.state.bytes room' (spot_at I x + (y - x)) (omega arith) (omega arith) ∙ ap (λ k. get_or new k 0) (let e' : spot_at I x + (y - x) - spot_at I x ≡ y - x = omega arith in e') ∙ sym (bytes_in a.byte x new y l u)

      apart : (y : ℕ) → CanRead I y 1 → (y < x) ⊎ (x + length new ≤ y) → (spot_at I y < spot_at I x) ⊎ (spot_at I x + length new ≤ spot_at I y)
      apart y (inl r) q = let f = spot_high (length I.code) I.entries.arena I.place (length I.literals) x h.0 in let g = spot_low (length I.code) I.entries.arena I.place (length I.literals) y (let a = laid.above in let b = r.1 in omega arith) in let b = r.0 in let c = r.1 in inl (omega arith)
      apart y (inr r) q = let f = spot_high (length I.code) I.entries.arena I.place (length I.literals) x h.0 in let g = spot_high (length I.code) I.entries.arena I.place (length I.literals) y r.0 in let b = r.0 in let c = h.0 in ⊎_elim (λ (u : y < x). inl (omega arith)) (λ (u : x + length new ≤ y). inr (omega arith)) q

  next_pc : a.at < length I.code → (s.world.state.pc + 4) % 2 ^ 64 ≡ base + 4 * suc a.at
  next_pc w = let e = m.pc in let t = laid.text in let h = laid.above in let k = laid.high in omega arith

  executes : (i : Ins) → slice_get I.code a.at ≡ Some i → step_of s.world.state ≡ executed i s.world.state
  executes i e = step_of-standing s.world.state i (laid.fits a.at i e) (stands i e)

  sources : (i : Ins) → slice_get I.code a.at ≡ Some i → IsKnown (a.regs i.rs1) → IsKnown (a.regs i.rs2) → executed i s.world.state ≡ done_by i.op i.rd (a.regs i.rs1) (a.regs i.rs2) (wrapped i.imm) s.world.state
  unfolding executed
  sources i e k1 k2 =
      let f = FitsAs-registers (shape_of i.op).format i (laid.fits a.at i e) in
      rw (m.regs i.rs1 f.1 k1, m.regs i.rs2 f.2 k2) refl

  source_one : (i : Ins) → slice_get I.code a.at ≡ Some i → IsKnown (a.regs i.rs1) → executed i s.world.state ≡ done_by i.op i.rd (a.regs i.rs1) (reg s.world.state i.rs2) (wrapped i.imm) s.world.state
  unfolding executed
  source_one i e k1 =
      let f = FitsAs-registers (shape_of i.op).format i (laid.fits a.at i e) in
      rw (m.regs i.rs1 f.1 k1) refl

  done_of : (b : Fine) (t : State) → step_of s.world.state ≡ (Going, t) → Shown I b (at_state s t) → Done I b s
  done_of b t e h = record { to = at_state s t; step = spot_step I s t e; shown = h }

  writes_done : (rd v : ℕ) → a.at < length I.code → rd ≢ 0 → rd < 32 → step_of s.world.state ≡ writes rd v s.world.state → Done I (put rd v a) s
  writes_done rd v w h l e = done_of _ (record s.world.state { regs = slice_set s.world.state.regs rd v; pc = (s.world.state.pc + 4) % 2 ^ 64 }) (e ∙ ap (λ t. goes t) (with_reg_eq rd v s.world.state h)) (shown_put rd v _ (suc a.at) h l (next_pc w))

  alu_done : (i : Ins) (v : ℕ) → slice_get I.code a.at ≡ Some i → IsKnown (a.regs i.rs1) → IsKnown (a.regs i.rs2) → value_by i.op (a.regs i.rs1) (a.regs i.rs2) (wrapped i.imm) (base + 4 * a.at) ≡ Some v → i.rd ≢ 0 → Done I (put i.rd v a) s
  alu_done i v e k1 k2 h z =
      let f = FitsAs-registers (shape_of i.op).format i (laid.fits a.at i e) in
      let h' : value_by i.op (a.regs i.rs1) (a.regs i.rs2) (wrapped i.imm) s.world.state.pc ≡ Some v = rw m.pc h in
      writes_done i.rd v (slice_get_within I.code a.at i e) z f.0 (executes i e ∙ sources i e k1 k2 ∙ done_value i.op i.rd (a.regs i.rs1) (a.regs i.rs2) (wrapped i.imm) v s.world.state h')

  load_done : (i : Ins) (w : Width) (x : ℕ) → slice_get I.code a.at ≡ Some i → IsKnown (a.regs i.rs1) → load_width i.op ≡ Some w → (a.regs i.rs1 + wrapped i.imm) % 2 ^ 64 ≡ x → x % byte_len w ≡ 0 → CanRead I x (byte_len w) → AllKnown a.byte x (byte_len w) → i.rd ≢ 0 → Done I (put i.rd (extended (load_signed i.op) w (from_le_bytes w (listed_from a.byte x (byte_len w)))) a) s
  load_done i w x e k1 q at al h k z =
      let f = FitsAs-registers (shape_of i.op).format i (laid.fits a.at i e) in
      let loc : located s.world.state 4 x (byte_len w) ≡ Some (spot_at I x) = rw m.areas (can_read_found I laid x (byte_len w) (width_some w) h) in
      let r = range_is I laid a s m x (byte_len w) (width_some w) h k in
      writes_done i.rd _ (slice_get_within I.code a.at i e) z f.0
      (executes i e ∙ source_one i e k1 ∙ done_load i.op i.rd (a.regs i.rs1) (reg s.world.state i.rs2) (wrapped i.imm) w s.world.state q ∙ rw (at, al, loc) (ap (λ l. writes i.rd (extended (load_signed i.op) w (from_le_bytes w l)) s.world.state) r))

  store_done : (i : Ins) (w : Width) (x : ℕ) → slice_get I.code a.at ≡ Some i → IsKnown (a.regs i.rs1) → IsKnown (a.regs i.rs2) → store_width i.op ≡ Some w → (a.regs i.rs1 + wrapped i.imm) % 2 ^ 64 ≡ x → x % byte_len w ≡ 0 → CanWrite I x (byte_len w) → Done I (poke x (to_le_bytes w (store_part i.op (a.regs i.rs2))) a) s
  store_done i w x e k1 k2 q at al h =
      let loc : located s.world.state 2 x (byte_len w) ≡ Some (spot_at I x) = rw m.areas (can_write_found I laid x (byte_len w) h) in
      let n = part_length w (store_part i.op (a.regs i.rs2)) in
      done_of _ (record s.world.state { bytes = overwritten (spot_at I x) (to_le_bytes w (store_part i.op (a.regs i.rs2))) s.world.state.bytes; pc = (s.world.state.pc + 4) % 2 ^ 64 })
      (executes i e ∙ sources i e k1 k2 ∙ done_store i.op i.rd (a.regs i.rs1) (a.regs i.rs2) (wrapped i.imm) w s.world.state q ∙ rw (at, al, loc) refl)
      (shown_poke x (to_le_bytes w (store_part i.op (a.regs i.rs2))) _ (subst (CanWrite I x) (sym n) h) (next_pc (slice_get_within I.code a.at i e)))

  load_any_done : (i : Ins) (w : Width) (x : ℕ) → slice_get I.code a.at ≡ Some i → IsKnown (a.regs i.rs1) → load_width i.op ≡ Some w → (a.regs i.rs1 + wrapped i.imm) % 2 ^ 64 ≡ x → x % byte_len w ≡ 0 → CanRead I x (byte_len w) → i.rd ≢ 0 → Done I (put i.rd (2 ^ 64) a) s
  load_any_done i w x e k1 q at al h z =
      let f = FitsAs-registers (shape_of i.op).format i (laid.fits a.at i e) in
      let loc : located s.world.state 4 x (byte_len w) ≡ Some (spot_at I x) = rw m.areas (can_read_found I laid x (byte_len w) (width_some w) h) in
      let v = extended (load_signed i.op) w (from_le_bytes w (slice_range s.world.state.bytes (spot_at I x) (spot_at I x + byte_len w))) in
      let d = writes_done i.rd v (slice_get_within I.code a.at i e) z f.0 (executes i e ∙ source_one i e k1 ∙ done_load i.op i.rd (a.regs i.rs1) (reg s.world.state i.rs2) (wrapped i.imm) w s.world.state q ∙ rw (at, al, loc) refl) in
      record { to = d.to; step = d.step; shown = shown_less I (put i.rd v a) (put i.rd (2 ^ 64) a) d.to d.shown refl (λ n k. other_reg v n k) (λ y k. refl) refl refl refl refl }
    where
      other_reg : (v n : ℕ) → IsKnown (with_value a.regs i.rd (2 ^ 64) n) → with_value a.regs i.rd (2 ^ 64) n ≡ with_value a.regs i.rd v n
      other_reg v n k = ⊎_elim
          (λ (q : n ≡ i.rd). absurd (let e : with_value a.regs i.rd (2 ^ 64) n ≡ 2 ^ 64 = ap (with_value a.regs i.rd (2 ^ 64)) q ∙ with_same a.regs i.rd (2 ^ 64) in omega arith))
          (λ (q : n ≢ i.rd). with_other a.regs i.rd (2 ^ 64) n q ∙ sym (with_other a.regs i.rd v n q))
          (eq_cases n i.rd)

  store_any_done : (i : Ins) (w : Width) (x : ℕ) → slice_get I.code a.at ≡ Some i → IsKnown (a.regs i.rs1) → store_width i.op ≡ Some w → (a.regs i.rs1 + wrapped i.imm) % 2 ^ 64 ≡ x → x % byte_len w ≡ 0 → CanWrite I x (byte_len w) → Done I (poke x (unknowns (byte_len w)) a) s
  store_any_done i w x e k1 q at al h =
      let loc : located s.world.state 2 x (byte_len w) ≡ Some (spot_at I x) = rw m.areas (can_write_found I laid x (byte_len w) h) in
      let v = reg s.world.state i.rs2 in
      let new = to_le_bytes w (store_part i.op v) in
      let n : length new ≡ byte_len w = part_length w (store_part i.op v) in
      let d = done_of (poke x new a) (record s.world.state { bytes = overwritten (spot_at I x) new s.world.state.bytes; pc = (s.world.state.pc + 4) % 2 ^ 64 })
      (executes i e ∙ source_one i e k1 ∙ done_store i.op i.rd (a.regs i.rs1) v (wrapped i.imm) w s.world.state q ∙ rw (at, al, loc) refl)
      (shown_poke x new _ (subst (CanWrite I x) (sym n) h) (next_pc (slice_get_within I.code a.at i e))) in
      record { to = d.to; step = d.step; shown = shown_less I (poke x new a) (poke x (unknowns (byte_len w)) a) d.to d.shown refl (λ n k. refl) (λ y k. other_byte new n y k) refl refl refl refl }
    where
      other_byte : (new : List ℕ) → length new ≡ byte_len w → (y : ℕ) → with_bytes a.byte x (unknowns (byte_len w)) y < 256 → with_bytes a.byte x (unknowns (byte_len w)) y ≡ with_bytes a.byte x new y
      other_byte new n y k =
          let u = unknowns_length (byte_len w) in
          ⊎_elim
          (λ (l : y < x). bytes_out a.byte x (unknowns (byte_len w)) y (inl l) ∙ sym (bytes_out a.byte x new y (inl l)))
          (λ (l : x ≤ y). ⊎_elim
          (λ (r : y < x + byte_len w). absurd (let e : with_bytes a.byte x (unknowns (byte_len w)) y ≡ 256 = bytes_in a.byte x (unknowns (byte_len w)) y l (omega arith) ∙ unknowns_at (byte_len w) (y - x) (omega arith) in omega arith))
          (λ (r : x + byte_len w ≤ y). bytes_out a.byte x (unknowns (byte_len w)) y (inr (omega arith)) ∙ sym (bytes_out a.byte x new y (inr (omega arith))))
          (cases_lt y (x + byte_len w)))
          (cases_lt y x)

  falls_done : (i : Ins) → slice_get I.code a.at ≡ Some i → IsKnown (a.regs i.rs1) → IsKnown (a.regs i.rs2) → test_by i.op (a.regs i.rs1) (a.regs i.rs2) ≡ Some false → Done I (go (suc a.at) a) s
  falls_done i e k1 k2 h = done_of _ (record s.world.state { pc = (s.world.state.pc + 4) % 2 ^ 64 }) (executes i e ∙ sources i e k1 k2 ∙ done_test i.op i.rd (a.regs i.rs1) (a.regs i.rs2) (wrapped i.imm) false s.world.state h) (shown_go _ (suc a.at) (next_pc (slice_get_within I.code a.at i e)))

  jumps_there : (pc : ℕ) → pc % 4 ≡ 0 → jumps 0 pc s.world.state ≡ (Going, record s.world.state { pc = pc })
  jumps_there pc z = rw z refl

  goes_to' : (z : ℤ) (target : ℕ) → (base + 4 * a.at + wrapped z) % 2 ^ 64 ≡ base + 4 * target → (s.world.state.pc + wrapped z) % 2 ^ 64 ≡ base + 4 * target
  goes_to' z target h = ap (λ p. (p + wrapped z) % 2 ^ 64) m.pc ∙ h

  takes_done : (i : Ins) (target : ℕ) → slice_get I.code a.at ≡ Some i → IsKnown (a.regs i.rs1) → IsKnown (a.regs i.rs2) → test_by i.op (a.regs i.rs1) (a.regs i.rs2) ≡ Some true → (base + 4 * a.at + wrapped i.imm) % 2 ^ 64 ≡ base + 4 * target → Done I (go target a) s
  takes_done i target e k1 k2 h z =
      let p = goes_to' i.imm target z in
      done_of _ (record s.world.state { pc = base + 4 * target }) (executes i e ∙ sources i e k1 k2 ∙ done_test i.op i.rd (a.regs i.rs1) (a.regs i.rs2) (wrapped i.imm) true s.world.state h ∙ ap (λ p. jumps 0 p s.world.state) p ∙ jumps_there (base + 4 * target) (omega arith)) (shown_go _ target refl)

  turns_done : (z : ℤ) (target : ℕ) → slice_get I.code a.at ≡ Some (ins Jal 0 0 0 z) → (base + 4 * a.at + wrapped z) % 2 ^ 64 ≡ base + 4 * target → Done I (go target a) s
  unfolding executed done_by value_by test_by rest_by
  turns_done z target e h =
      let p = goes_to' z target h in
      done_of _ (record s.world.state { pc = base + 4 * target }) (executes _ e ∙ ap (λ p. jumps 0 p s.world.state) p ∙ jumps_there (base + 4 * target) (omega arith)) (shown_go _ target refl)

  leaps_done : (rs target : ℕ) (z : ℤ) → slice_get I.code a.at ≡ Some (ins Jalr 0 rs 0 z) → IsKnown (a.regs rs) → (a.regs rs + wrapped z) % 2 ^ 64 ≡ base + 4 * target → Done I (go target a) s
  unfolding done_by value_by test_by rest_by
  leaps_done rs target z e k1 h =
      let p : (a.regs rs + wrapped z) % 2 ^ 64 / 2 * 2 ≡ base + 4 * target = omega arith in
      done_of _ (record s.world.state { pc = base + 4 * target }) (executes _ e ∙ source_one _ e k1 ∙ ap (λ p. jumps 0 p s.world.state) p ∙ jumps_there (base + 4 * target) (omega arith)) (shown_go _ target refl)

  calls_done : (rd rs target : ℕ) (z : ℤ) → slice_get I.code a.at ≡ Some (ins Jalr rd rs 0 z) → rd ≢ 0 → IsKnown (a.regs rs) → (a.regs rs + wrapped z) % 2 ^ 64 ≡ base + 4 * target → Done I (link rd target a) s
  unfolding done_by value_by test_by rest_by
  calls_done rd rs target z e d k1 h =
      let f = FitsAs-registers (shape_of Jalr).format (ins Jalr rd rs 0 z) (laid.fits a.at _ e) in
      let p : (a.regs rs + wrapped z) % 2 ^ 64 / 2 * 2 ≡ base + 4 * target = omega arith in
      let v : (s.world.state.pc + 4) % 2 ^ 64 ≡ base + 4 * suc a.at = next_pc (slice_get_within I.code a.at _ e) in
      done_of _ (record s.world.state { regs = slice_set s.world.state.regs rd (base + 4 * suc a.at); pc = base + 4 * target })
      (executes _ e ∙ source_one _ e k1 ∙ ap (λ p. jumps rd p s.world.state) p ∙ links_there rd (base + 4 * target) (base + 4 * suc a.at) v d (omega arith))
      (shown_put rd (base + 4 * suc a.at) (base + 4 * target) target d f.0 refl)
    where
      links_there : (rd pc v : ℕ) → (s.world.state.pc + 4) % 2 ^ 64 ≡ v → rd ≢ 0 → pc % 4 ≡ 0 → jumps rd pc s.world.state ≡ (Going, record s.world.state { regs = slice_set s.world.state.regs rd v; pc = pc })
      links_there rd pc v e d z = rw (z, e) (ap (λ (t : State). (Going, record t { pc = pc })) (with_reg_eq rd v s.world.state d))

  -- ---- calls

  next_shown : (n : ℕ) → a.at < length I.code → Shown I (record (put 10 n a) { at = suc a.at }) (at_state s (record s.world.state { regs = slice_set s.world.state.regs 10 n; pc = (s.world.state.pc + 4) % 2 ^ 64 }))
  next_shown n w = shown_put 10 n ((s.world.state.pc + 4) % 2 ^ 64) (suc a.at) (omega arith) (omega arith) (next_pc w)

  asked : {call stream x n : ℕ} → call < 256 → stream < 256 → Asks call stream x n a → (reg s.world.state 17 ≡ call) × (reg s.world.state 10 ≡ stream) × (reg s.world.state 11 ≡ x) × (reg s.world.state 12 ≡ n)
  asked {call} {stream} {x} {n} lc ls q =
      let q17 = q.x17 in
      let q10 = q.x10 in
      let q11 = q.x11 in
      let q12 = q.x12 in
      let from = q.from in
      let many = q.many in
      (m.regs 17 (omega arith) (omega arith) ∙ q.x17, m.regs 10 (omega arith) (omega arith) ∙ q.x10, m.regs 11 (omega arith) (omega arith) ∙ q.x11, m.regs 12 (omega arith) (omega arith) ∙ q.x12)

  asks_to_write : (to x n : ℕ) → (to ≡ 1) ⊎ (to ≡ 2) → slice_get I.code a.at ≡ Some (ins Ecall 0 0 0 (pos 0)) → Asks 64 to x n a → CanRead I x n → step_of s.world.state ≡ (Write to (spot_at I x) n, s.world.state)
  unfolding executed done_by value_by test_by rest_by called
  asks_to_write to x n (inl t) e q r =
      let g = asked (omega arith) (let z = t in omega arith) q in
      let r17 : reg s.world.state 17 ≡ 64 = g.0 in
      let r10 : reg s.world.state 10 ≡ 1 = g.1 ∙ t in
      let r11 : reg s.world.state 11 ≡ x = g.2 in
      let r12 : reg s.world.state 12 ≡ n = g.3 in
      let nz : (n == 0) ≡ false = let z = q.some in grind (arith, nat_tests) in
      let loc : located s.world.state 4 x n ≡ Some (spot_at I x) = rw m.areas (can_read_found I laid x n q.some r) in
      executes _ e ∙ rw (r17, r10, r12, r11, nz, loc) (ap (λ k. (Write k (spot_at I x) n, s.world.state)) (sym t))
  asks_to_write to x n (inr t) e q r =
      let g = asked (omega arith) (let z = t in omega arith) q in
      let r17 : reg s.world.state 17 ≡ 64 = g.0 in
      let r10 : reg s.world.state 10 ≡ 2 = g.1 ∙ t in
      let r11 : reg s.world.state 11 ≡ x = g.2 in
      let r12 : reg s.world.state 12 ≡ n = g.3 in
      let nz : (n == 0) ≡ false = let z = q.some in grind (arith, nat_tests) in
      let loc : located s.world.state 4 x n ≡ Some (spot_at I x) = rw m.areas (can_read_found I laid x n q.some r) in
      executes _ e ∙ rw (r17, r10, r12, r11, nz, loc) (ap (λ k. (Write k (spot_at I x) n, s.world.state)) (sym t))

  asks_to_read : (x n : ℕ) → slice_get I.code a.at ≡ Some (ins Ecall 0 0 0 (pos 0)) → Asks 63 0 x n a → CanWrite I x n → step_of s.world.state ≡ (Read (spot_at I x) n, s.world.state)
  unfolding executed done_by value_by test_by rest_by called
  asks_to_read x n e q r =
      let g = asked (omega arith) (omega arith) q in
      let r17 : reg s.world.state 17 ≡ 63 = g.0 in
      let r10 : reg s.world.state 10 ≡ 0 = g.1 in
      let r11 : reg s.world.state 11 ≡ x = g.2 in
      let r12 : reg s.world.state 12 ≡ n = g.3 in
      let nz : (n == 0) ≡ false = let z = q.some in grind (arith, nat_tests) in
      let loc : located s.world.state 2 x n ≡ Some (spot_at I x) = rw m.areas (can_write_found I laid x n r) in
      executes _ e ∙ rw (r17, r10, r12, r11, nz, loc) refl

  -- the first n of the bytes that are asked for are written
  wrote : (to x n k : ℕ) → (to ≡ 1) ⊎ (to ≡ 2) → a.at < length I.code → 0 < k → k ≤ n → CanRead I x n → AllKnown a.byte x n → Shown I (told to x k a) (record { world = after_write to (spot_at I x) k s.world; cuts = later s.cuts })
  wrote to x n k t w z l r kn =
      let q = next_shown k w in
      let piece : slice_range s.world.state.bytes (spot_at I x) (spot_at I x + k) ≡ listed_from a.byte x k = range_is I laid a s m x k z (shorter r l) (λ i h. kn i (omega arith)) in
      by t q piece
    where
      shorter : {k : ℕ} → CanRead I x n → k ≤ n → CanRead I x k
      shorter {k} (inl h) l = let b = h.1 in inl (h.0, omega arith)
      shorter {k} (inr h) l = let b = h.1 in inr (h.0, omega arith)

      by : (to ≡ 1) ⊎ (to ≡ 2) → Shown I (record (put 10 k a) { at = suc a.at }) (at_state s (record s.world.state { regs = slice_set s.world.state.regs 10 k; pc = (s.world.state.pc + 4) % 2 ^ 64 })) → slice_range s.world.state.bytes (spot_at I x) (spot_at I x + k) ≡ listed_from a.byte x k → Shown I (told to x k a) (record { world = after_write to (spot_at I x) k s.world; cuts = later s.cuts })
      by (inl e) q piece = subst (λ to. Shown I (told to x k a) (record { world = after_write to (spot_at I x) k s.world; cuts = later s.cuts })) (sym e) (record {
        regs = q.regs;
        many = q.many;
        pc = q.pc;
        areas = q.areas;
        size = q.size;
        text = q.text;
        byte = q.byte;
        input = m.input;
        out = ap (λ l. l ++ slice_range s.world.state.bytes (spot_at I x) (spot_at I x + k)) m.out ∙ ap (λ l. a.out ++ l) piece;
        err = m.err;
        cuts = ap later m.cuts;
      })
      by (inr e) q piece = subst (λ to. Shown I (told to x k a) (record { world = after_write to (spot_at I x) k s.world; cuts = later s.cuts })) (sym e) (record {
        regs = q.regs;
        many = q.many;
        pc = q.pc;
        areas = q.areas;
        size = q.size;
        text = q.text;
        byte = q.byte;
        input = m.input;
        out = m.out;
        err = ap (λ l. l ++ slice_range s.world.state.bytes (spot_at I x) (spot_at I x + k)) m.err ∙ ap (λ l. a.err ++ l) piece;
        cuts = ap later m.cuts;
      })

  tells_done : (to x n : ℕ) → (to ≡ 1) ⊎ (to ≡ 2) → slice_get I.code a.at ≡ Some (ins Ecall 0 0 0 (pos 0)) → Asks 64 to x n a → CanRead I x n → AllKnown a.byte x n → Done I (told to x (moved a.cuts n) a) s
  tells_done to x n t e q r kn =
      let g = asks_to_write to x n t e q r in
      let c = moved_some s.cuts n q.some in
      let u : Turn = turned (Write to (spot_at I x) n) s.world.state s.world s.cuts in
      subst (λ k. Done I (told to x k a) s) (ap (λ cs. moved cs n) m.cuts) (record {
        to = spot_of u;
        step = ap (λ (o : Outcome). let u = turned o.0 o.1 s.world s.cuts in goes_to u.mend (spot_of u)) g;
        shown = wrote to x n (moved s.cuts n) t (slice_get_within I.code a.at _ e) c.0 c.1 r kn;
      })

  reads_done : (x n : ℕ) (bytes : List ℕ) → slice_get I.code a.at ≡ Some (ins Ecall 0 0 0 (pos 0)) → Asks 63 0 x n a → CanWrite I x n → a.input ≡ Some bytes → Done I (taken x (moved a.cuts (min n (length bytes))) bytes a) s
  reads_done x n bytes e q r i =
      let g = asks_to_read x n e q r in
      let k = moved s.cuts (min n (length bytes)) in
      let l : k ≤ min n (length bytes) = moved_most s.cuts (min n (length bytes)) in
      let new = take k bytes in
      let ln : length (take k bytes) ≤ n = simp length-take (omega arith) in
      let pc = (s.world.state.pc + 4) % 2 ^ 64 in
      let w = next_pc (slice_get_within I.code a.at _ e) in
      let low = r.0 in
      let high = r.1 in
      let m1 = shown_poke x (take k bytes) ((s.world.state.pc + 4) % 2 ^ 64) (low, omega arith) w in
      let s1 = at_state s (record s.world.state { bytes = overwritten (spot_at I x) (take k bytes) s.world.state.bytes; pc = (s.world.state.pc + 4) % 2 ^ 64 }) in
      let f : s.world.input ≡ Some bytes = m.input ∙ i in
      subst (λ k. Done I (taken x k bytes a) s) (ap (λ cs. moved cs (min n (length bytes))) m.cuts) (record {
        to = record { world = record s.world { state = (read_of (spot_at I x) n s.cuts (Some bytes) s.world.state).0; input = (read_of (spot_at I x) n s.cuts (Some bytes) s.world.state).1 }; cuts = later s.cuts };
        step = ap (λ (o : Outcome). let u = turned o.0 o.1 s.world s.cuts in goes_to u.mend (spot_of u)) g ∙ ap (λ o. Some (record { world = record s.world { state = (read_of (spot_at I x) n s.cuts o s.world.state).0; input = (read_of (spot_at I x) n s.cuts o s.world.state).1 }; cuts = later s.cuts })) f;
        shown = read_in x k bytes m1 w;
      })
    where
      read_in : (x k : ℕ) (bytes : List ℕ) → Shown I (poke x (take k bytes) a) (at_state s (record s.world.state { bytes = overwritten (spot_at I x) (take k bytes) s.world.state.bytes; pc = (s.world.state.pc + 4) % 2 ^ 64 })) → (s.world.state.pc + 4) % 2 ^ 64 ≡ base + 4 * suc a.at → Shown I (taken x k bytes a) (record { world = record s.world { state = with_read (spot_at I x) k (take k bytes) s.world.state; input = Some (drop k bytes) }; cuts = later s.cuts })
      read_in x k bytes m1 w = record {
        regs = λ j l kn. ⊎_elim
            (λ (q : j ≡ 10). subst (λ j. reg (with_read (spot_at I x) k (take k bytes) s.world.state) j ≡ with_value a.regs 10 k j) (sym q) (get_or-set_same s.world.state.regs 10 k 0 (let z = m.many in omega arith) ∙ sym (with_same a.regs 10 k)))
            (λ (q : j ≢ 10). ap (λ x. if j == 0 then 0 else x) (get_or-set_other s.world.state.regs 10 j k 0 q) ∙ m.regs j l (subst IsKnown (with_other a.regs 10 k j q) kn) ∙ sym (with_other a.regs 10 k j q))
            (eq_cases j 10);
        many = length-set s.world.state.regs 10 k ∙ m.many;
        pc = w;
        areas = m1.areas;
        size = m1.size;
        text = m1.text;
        byte = m1.byte;
        input = refl;
        out = m.out;
        err = m.err;
        cuts = ap later m.cuts;
      }

-- what an act does to registers and bytes, the machine does
pub act_done : (I : Emitted) (laid : IsLaid I) (i : Ins) (a b : Fine) → Act I i a b → (s : Spot) → Shown I a s → slice_get I.code a.at ≡ Some i → Done I b s
act_done I laid i a b (alu i' a' v k1 k2 h z) s m e = alu_done I laid a s m i v e k1 k2 h z
act_done I laid i a b (load i' a' w x k1 q at al h k z) s m e = load_done I laid a s m i w x e k1 q at al h k z
act_done I laid i a b (store i' a' w x k1 k2 q at al h) s m e = store_done I laid a s m i w x e k1 k2 q at al h
act_done I laid i a b (load_any i' a' w x k1 q at al h z) s m e = load_any_done I laid a s m i w x e k1 q at al h z
act_done I laid i a b (store_any i' a' w x k1 q at al h) s m e = store_any_done I laid a s m i w x e k1 q at al h
act_done I laid i a b (falls i' a' k1 k2 h) s m e = falls_done I laid a s m i e k1 k2 h
act_done I laid i a b (takes i' a' target k1 k2 h z) s m e = takes_done I laid a s m i target e k1 k2 h z
act_done I laid i a b (turns z a' target h) s m e = turns_done I laid a s m z target e h
act_done I laid i a b (leaps rs target z a' k1 h) s m e = leaps_done I laid a s m rs target z e k1 h
act_done I laid i a b (calls rd rs target z a' d k1 h) s m e = calls_done I laid a s m rd rs target z e d k1 h
act_done I laid i a b (tells to a' x n t q r k) s m e = tells_done I laid a s m to x n t e q r k
act_done I laid i a b (reads a' x n bytes q r k) s m e = reads_done I laid a s m x n bytes e q r k

-- an exit is the end
pub exit_done : (I : Emitted) (laid : IsLaid I) (a : Fine) (s : Spot) (n : ℕ) → Shown I a s → slice_get I.code a.at ≡ Some (ins Ecall 0 0 0 (pos 0)) → a.regs 17 ≡ 93 → a.regs 10 ≡ n → n < 256 → Exits I n s
unfolding executed done_by value_by test_by rest_by called
exit_done I laid a s n m e p q l =
    let st = s.world.state in
    let r17 : reg st 17 ≡ 93 = m.regs 17 (omega arith) (omega arith) ∙ p in
    let r10 : reg st 10 % 256 ≡ n = let z : reg st 10 ≡ n = m.regs 10 (omega arith) (omega arith) ∙ q in omega arith in
    let f : step_of st ≡ (Exit n, st) = executes I laid a s m _ e ∙ rw (r17, r10) refl in
    record {
      step = ap (λ (o : Outcome). let u = turned o.0 o.1 s.world s.cuts in goes_to u.mend (spot_of u)) f;
      end = ap (λ (o : Outcome). mend_end I.entries s.world.state (turned o.0 o.1 s.world s.cuts).mend s.world.err) f;
    }
