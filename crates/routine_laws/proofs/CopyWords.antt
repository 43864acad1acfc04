-- The loop that copies whole words.
use Rattle.std.proofs.Common.{◌≡◌, ◌≢◌, ℕ, suc, ◌+◌, ◌-◌, ◌*◌, ◌%◌, ◌^◌, ◌<◌, ◌≤◌, pos, negsuc, List, length, get_or, Some, true, false, arith, refl, sym, ap, ◌∙◌, subst, inl, inr, le_refl}
use Rattle.std.specs.Int.{w64, from_le_bytes, to_le_bytes}
use Rattle.std.proofs.lemmas.Option.{slice_get_within}
use Rattle.rv_isa.specs.declared.table.Op.TheVariants.{Addi, Blt, Ld, Sd}
use Rattle.rv_isa.specs.Word.{ins}
use Rattle.rv_machine.specs.Step.{wrapped, is_less}
use Rattle.simulation.proofs.Heaps.{with_other}
use Rattle.rv_run.specs.Seen.{listed_from}
use Rattle.rv_acts.specs.Emitted.{Emitted, base, IsLaid}
use Rattle.rv_acts.specs.Fine.{IsKnown, AllKnown, with_value, Fine}
use Rattle.rv_acts.specs.Trip.{IsLow}
use Rattle.rv_acts.proofs.Bytes.{bytes_out}
use Rattle.rv_pieces.specs.Stand.{Stands}
use Rattle.rv_pieces.specs.Route.{Trips}
use Rattle.rv_pieces.proofs.Standing.{zero_known, stands_at}
use Rattle.rv_pieces.proofs.Words.{get_listed, same_bytes}
use Rattle.rv_pieces.proofs.Then.{finish, rounds, alu_then, load_then, store_then, falls_then, takes_then, turns_then}
use Rattle.routine_laws.proofs.Strings.{laid_low, not_below_zero, below_zero, copied_more}
use Rattle.routine_laws.specs.Copy.{words_code}
use Rattle.routine_laws.proofs.CopyBytes.{Source, Room, read_part, Copying}

pub word_small : (m : ℕ → ℕ) (x : ℕ) → AllKnown m x 8 → from_le_bytes w64 (listed_from m x 8) < 2 ^ 64
word_small m x k =
    let b0 = subst (λ y. m y < 256) (let z : x + 0 ≡ x = omega arith in z) (k 0 (omega arith)) in
    let b1 = subst (λ y. m y < 256) (let z : x + 1 ≡ suc x = omega arith in z) (k 1 (omega arith)) in
    let b2 = subst (λ y. m y < 256) (let z : x + 2 ≡ suc (suc x) = omega arith in z) (k 2 (omega arith)) in
    let b3 = subst (λ y. m y < 256) (let z : x + 3 ≡ suc (suc (suc x)) = omega arith in z) (k 3 (omega arith)) in
    let b4 = subst (λ y. m y < 256) (let z : x + 4 ≡ suc (suc (suc (suc x))) = omega arith in z) (k 4 (omega arith)) in
    let b5 = subst (λ y. m y < 256) (let z : x + 5 ≡ suc (suc (suc (suc (suc x)))) = omega arith in z) (k 5 (omega arith)) in
    let b6 = subst (λ y. m y < 256) (let z : x + 6 ≡ suc (suc (suc (suc (suc (suc x))))) = omega arith in z) (k 6 (omega arith)) in
    let b7 = subst (λ y. m y < 256) (let z : x + 7 ≡ suc (suc (suc (suc (suc (suc (suc x)))))) = omega arith in z) (k 7 (omega arith)) in
    omega arith

module _ (I : Emitted) (laid : IsLaid I) (Q : ℕ → Type 0) (f : ℕ → ℕ) (x y many p r : ℕ) (a0 : Fine) (zero0 : a0.regs 0 ≡ 0) (source : Source I a0 f x many) (room : Room I a0 y many) (x_at : x % 8 ≡ 0) (y_at : y % 8 ≡ 0) (short : r < 8) (code : Stands I.code p words_code) (clear : (k : ℕ) → p ≤ k → k < p + 8 → Q k) where
  abbrev WAt : ℕ → Fine → Type 0
  WAt k a = (i : ℕ) × (i + (8 * k + r) ≡ many) × (i % 8 ≡ 0) × Copying I 5 9 28 30 f x y i a0 p (8 * k + r) a

  low_pc : base + 4 * p < 2 ^ 63
  low_pc = let w = slice_get_within I.code p _ code.0 in let h = (laid_low I laid) in let k = laid.high in omega arith

  abbrev known_here : (k i : ℕ) (a : Fine) → i + (8 * suc k + r) ≡ many → Copying I 5 9 28 30 f x y i a0 p (8 * suc k + r) a → (j : ℕ) → j < 8 → a.byte (x + i + j) ≡ f (i + j)
  known_here k i a e h j l =
      let q : x + i + j ≡ x + (i + j) = omega arith in
      ap a.byte q ∙ h.copied.steady.low (x + (i + j)) (source.low (i + j) (omega arith)) ∙ source.is (i + j) (omega arith)

  less8 : (v u : ℕ) → v ≡ 8 + u → u < 2 ^ 63 → (v + wrapped (negsuc 7)) % 2 ^ 64 ≡ u
  less8 v u e l = omega arith

  eight_left : (k : ℕ) → 8 * suc k + r ≡ 8 + (8 * k + r)
  eight_left k = omega arith

  more8 : (v : ℕ) → v < 2 ^ 63 → (v + wrapped (pos 8)) % 2 ^ 64 ≡ v + 8
  more8 v l = omega arith

  known_small : (v u : ℕ) → v ≡ u → u < 2 ^ 63 → IsKnown v
  known_small v u e l = omega arith

  back : (n : ℕ) → n ≡ p → base + 4 * p < 2 ^ 63 → (base + 4 * suc (suc (suc (suc (suc (suc (suc n)))))) + wrapped (negsuc 27)) % 2 ^ 64 ≡ base + 4 * p
  back n e l = omega arith

  on8 : (v u i : ℕ) → v + 8 ≡ u + i → v + 8 + 8 ≡ u + (i + 8)
  on8 v u i e = omega arith

  same5 : (g : ℕ → ℕ) (q u v c d e : ℕ) → q ≢ 5 → q ≢ 9 → q ≢ 28 → q ≢ 30 → with_value (with_value (with_value (with_value (with_value g 30 u) 30 v) 5 c) 9 d) 28 e q ≡ g q
  same5 g q u v c d e ps pd pn pt =
      with_other (with_value (with_value (with_value (with_value g 30 u) 30 v) 5 c) 9 d) 28 e q pn ∙ with_other (with_value (with_value (with_value g 30 u) 30 v) 5 c) 9 d q pd ∙ with_other (with_value (with_value g 30 u) 30 v) 5 c q ps ∙ with_other (with_value g 30 u) 30 v q pt ∙ with_other g 30 u q pt

  round_at : (k i : ℕ) (a : Fine) (v : ℕ) (new : List ℕ) → i + (8 * suc k + r) ≡ many → i % 8 ≡ 0 → Copying I 5 9 28 30 f x y i a0 p (8 * suc k + r) a → AllKnown a.byte (x + i) 8 → v < 2 ^ 64 → from_le_bytes w64 (listed_from a.byte (x + i) 8) ≡ v → to_le_bytes w64 v ≡ new → length new ≡ 8 → ((j : ℕ) → j < 8 → get_or new j 0 ≡ f (i + j)) → Trips I Q (λ b. (j : ℕ) × (j ≤ k) × WAt j b) 8 a
  round_at k i a v new e i_at h known small ev en ln fn =
      let st = stands_at I.code p a.at words_code (sym h.at) code in
      let at = h.at in
      let pc = low_pc in
      let sh = source.high in
      let sb = source.behind in
      let rw' = room.within in
      let ra = room.above in
      let rb = room.arena in
      let high = laid.high in
      let rs = h.r_src in
      let rd = h.r_dst in
      let rn = h.r_n in
      let z : a.regs 0 ≡ 0 = h.copied.steady.x0 ∙ zero0 in
      let x8 : a.regs 8 ≡ a0.regs 8 = h.copied.steady.x8 in
      let left : 8 * k + r < 2 ^ 63 = omega arith in
      let e28 : (a.regs 28 + wrapped (negsuc 7)) % 2 ^ 64 ≡ 8 * k + r = less8 (a.regs 28) (8 * k + r) (rn ∙ eight_left k) left in
      let s5 : a.regs 5 < 2 ^ 63 = omega arith in
      let s9 : a.regs 9 < 2 ^ 63 = omega arith in
      let k28 : IsKnown (a.regs 28) = omega arith in
      let z0 : IsKnown (a.regs 0) = omega arith in
      let load_at : (a.regs 5 + wrapped (pos 8)) % 2 ^ 64 ≡ x + i = omega arith in
      let store_at : (a.regs 9 + wrapped (pos 8)) % 2 ^ 64 ≡ y + i = omega arith in
      let a8 : (x + i) % 8 ≡ 0 = omega arith in
      let b8 : (y + i) % 8 ≡ 0 = omega arith in
      let sum8 : i + 8 + (8 * k + r) ≡ many = omega arith in
      let at8 : (i + 8) % 8 ≡ 0 = omega arith in
      alu_then (ins Addi 30 28 0 (negsuc 7)) (8 * k + r) st.0 (clear a.at (omega arith) (omega arith)) (omega arith) (zero_known (a.regs 0) z) (ap (λ x. Some x) (omega arith)) (omega arith) (omega arith)
      (falls_then (ins Blt 0 30 0 (pos 28)) st.1.0 (clear _ (omega arith) (omega arith)) (omega arith) (omega arith) (ap (λ t. Some t) (subst (λ z. is_less (8 * k + r) z ≡ false) (sym z) (not_below_zero (8 * k + r) (omega arith))))
      (load_then (ins Ld 30 5 0 (pos 8)) w64 (x + i) v st.1.1.0 (clear _ (omega arith) (omega arith)) (known_small (a.regs 5) (a.regs 5) refl s5) refl load_at a8 (read_part I x many i 8 source.reads (omega arith)) known ev (omega arith) (omega arith)
      (store_then (ins Sd 0 9 30 (pos 8)) w64 (y + i) new st.1.1.1.0 (clear _ (omega arith) (omega arith)) (known_small (a.regs 9) (a.regs 9) refl s9) small refl store_at b8 (omega arith, omega arith) en (inl (omega arith))
      (alu_then (ins Addi 5 5 0 (pos 8)) (a.regs 5 + 8) st.1.1.1.1.0 (clear _ (omega arith) (omega arith)) (known_small (a.regs 5) (a.regs 5) refl s5) z0 (ap (λ x. Some x) (more8 (a.regs 5) s5)) (omega arith) (omega arith)
      (alu_then (ins Addi 9 9 0 (pos 8)) (a.regs 9 + 8) st.1.1.1.1.1.0 (clear _ (omega arith) (omega arith)) (known_small (a.regs 9) (a.regs 9) refl s9) z0 (ap (λ x. Some x) (more8 (a.regs 9) s9)) (omega arith) (omega arith)
      (alu_then (ins Addi 28 28 0 (negsuc 7)) (8 * k + r) st.1.1.1.1.1.1.0 (clear _ (omega arith) (omega arith)) k28 z0 (ap (λ x. Some x) e28) (omega arith) (omega arith)
      (turns_then (negsuc 27) p st.1.1.1.1.1.1.1.0 (clear _ (omega arith) (omega arith)) (back a.at at pc)
      (finish (
        k,
        le_refl k,
        (
          i + 8,
          sum8,
          at8,
          record {
            at = refl;
            r_src = on8 (a.regs 5) x i rs;
            r_dst = on8 (a.regs 9) y i rd;
            r_n = refl;
            copied = copied_more I f y i 8 a0 a _ new h.copied (record { x0 = refl; x8 = refl; low = λ u l. bytes_out a.byte (y + i) new u (inl (under u l x8)) }) ln fn (λ u. refl);
            same = λ q ps pd pn pt. same5 a.regs q (8 * k + r) v (a.regs 5 + 8) (a.regs 9 + 8) (8 * k + r) ps pd pn pt ∙ h.same q ps pd pn pt;
            outside = record { input = h.outside.input; out = h.outside.out; err = h.outside.err; cuts = h.outside.cuts };
          },
        ),
      )))))))))
    where
      under : (u : ℕ) → IsLow I (a.regs 8) u → a.regs 8 ≡ a0.regs 8 → u < y + i
      under u (inl l) e = let ra = room.above in let rb = room.arena in omega arith
      under u (inr l) e = let ra = room.above in let rb = l.1 in omega arith

  round : (k : ℕ) (a : Fine) → WAt (suc k) a → Trips I Q (λ b. (j : ℕ) × (j ≤ k) × WAt j b) 8 a
  round k a g =
      let kh = known_here k g.0 a g.1 g.3 in
      let kn : AllKnown a.byte (x + g.0) 8 = λ j l. subst (λ v. v < 256) (sym (kh j l)) (source.small (g.0 + j)) in
      round_at k g.0 a _ (listed_from a.byte (x + g.0) 8) g.1 g.2 g.3 kn (word_small a.byte (x + g.0) kn) refl (same_bytes a.byte (x + g.0) kn) refl (λ j l. get_listed a.byte (x + g.0) 8 j l ∙ kh j l)

  pub record Worded (a : Fine) : Type 0 where
    pub done : ℕ
    pub sum : done + r ≡ many
    pub copying : Copying I 5 9 28 30 f x y done a0 (p + 8) r a

  out_of : (a : Fine) → WAt 0 a → Trips I Q Worded 2 a
  out_of a g =
      let h = g.3 in
      let e : g.0 + r ≡ many = let q = g.1 in omega arith in
      let st = stands_at I.code p a.at words_code (sym h.at) code in
      let at = h.at in
      let pc = low_pc in
      let rn = h.r_n in
      let z : a.regs 0 ≡ 0 = h.copied.steady.x0 ∙ zero0 in
      alu_then (ins Addi 30 28 0 (negsuc 7)) (2 ^ 64 - 8 + r) st.0 (clear a.at (omega arith) (omega arith)) (omega arith) (zero_known (a.regs 0) z) (ap (λ x. Some x) (omega arith)) (omega arith) (omega arith)
      (takes_then (ins Blt 0 30 0 (pos 28)) (p + 8) st.1.0 (clear _ (omega arith) (omega arith)) (omega arith) (omega arith) (ap (λ t. Some t) (subst (λ z. is_less (2 ^ 64 - 8 + r) z ≡ true) (sym z) (below_zero (2 ^ 64 - 8 + r) (omega arith) (omega arith)))) (omega arith)
      (finish (record {
        done = g.0;
        sum = e;
        copying = record {
          at = refl;
          r_src = h.r_src;
          r_dst = h.r_dst;
          r_n = let q : 8 * 0 + r ≡ r = omega arith in rn ∙ q;
          copied = record { steady = record { x0 = h.copied.steady.x0; x8 = h.copied.steady.x8; low = h.copied.steady.low }; there = h.copied.there; others = h.copied.others };
          same = λ q ps pd pn pt. with_other a.regs 30 (2 ^ 64 - 8 + r) q pt ∙ h.same q ps pd pn pt;
          outside = record { input = h.outside.input; out = h.outside.out; err = h.outside.err; cuts = h.outside.cuts };
        };
      })))

  -- all but fewer than eight are copied, in 8 instructions for eight bytes
  pub words_copied : (k : ℕ) (a : Fine) → 8 * k + r ≡ many → Copying I 5 9 28 30 f x y 0 a0 p many a → Trips I Q Worded (k * 8 + 2) a
  words_copied k a e h = rounds WAt 8 2 round out_of k k a (omega arith) (0, omega arith, omega arith, subst (λ n. Copying I 5 9 28 30 f x y 0 a0 p n a) (sym e) h)
