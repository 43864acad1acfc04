-- The loop that copies bytes, in any registers.
use Rattle.std.proofs.Common.{◌≡◌, ◌≢◌, ℕ, suc, ◌+◌, ◌*◌, ◌^◌, ◌<◌, ◌≤◌, pos, negsuc, [], ◌∷◌, get_or, Some, true, false, ◌==◌, arith, refl, sym, ap, ◌∙◌, subst, inl, inr, le_refl}
use Rattle.std.specs.Int.{w8}
use Rattle.std.proofs.lemmas.Bool.Decides.{nat_tests}
use Rattle.std.proofs.lemmas.Option.{slice_get_within}
use Rattle.rv_isa.specs.declared.table.Op.TheVariants.{Addi, Beq, Lbu, Sb}
use Rattle.rv_isa.specs.Word.{ins}
use Rattle.simulation.proofs.Heaps.{with_same, with_other}
use Rattle.rv_acts.specs.Emitted.{Emitted, base, IsLaid, CanRead}
use Rattle.rv_acts.specs.Fine.{Fine}
use Rattle.rv_acts.specs.Act.{put, poke, go}
use Rattle.rv_acts.specs.Trip.{IsLow}
use Rattle.rv_acts.proofs.Bytes.{bytes_out}
use Rattle.rv_pieces.specs.Stand.{Stands}
use Rattle.rv_pieces.specs.Route.{Trips}
use Rattle.rv_pieces.proofs.Standing.{zero_known, stands_at}
use Rattle.rv_pieces.proofs.Then.{finish, rounds, alu_then, load_then, store_then, falls_then, takes_then, turns_then}
use Rattle.routine_laws.specs.Strings.{SameOutside}
use Rattle.routine_laws.proofs.Strings.{laid_low, Copied, copied_more}
use Rattle.routine_laws.specs.Copy.{bytes_code}

-- four registers, all different, and neither x0 nor x8
pub record Apart (src dst n tmp : ℕ) : Type 0 where
  pub src_tmp : src ≢ tmp
  pub dst_tmp : dst ≢ tmp
  pub n_tmp : n ≢ tmp
  pub dst_src : dst ≢ src
  pub n_src : n ≢ src
  pub n_dst : n ≢ dst
  pub src0 : src ≢ 0
  pub dst0 : dst ≢ 0
  pub n0 : n ≢ 0
  pub tmp0 : tmp ≢ 0
  pub src8 : src ≢ 8
  pub dst8 : dst ≢ 8
  pub n8 : n ≢ 8
  pub tmp8 : tmp ≢ 8

-- what is copied: so many bytes from x on, that nothing in the loop changes
pub record Source (I : Emitted) (a : Fine) (f : ℕ → ℕ) (x many : ℕ) : Type 0 where
  pub reads : CanRead I x many
  pub low : (j : ℕ) → j < many → IsLow I (a.regs 8) (x + j)
  pub is : (j : ℕ) → j < many → a.byte (x + j) ≡ f j
  pub small : (j : ℕ) → f j < 256
  pub behind : 8 ≤ x
  pub high : x + many < 2 ^ 63

-- where it goes: above x8
pub record Room (I : Emitted) (a : Fine) (y many : ℕ) : Type 0 where
  pub above : a.regs 8 + 8 ≤ y
  pub arena : I.entries.arena ≤ a.regs 8
  pub within : y + many ≤ I.entries.arena + 8 * I.entries.arena_words

pub read_part : (I : Emitted) (x n i k : ℕ) → CanRead I x n → i + k ≤ n → CanRead I (x + i) k
read_part I x n i k (inl h) l = let b = h.0 in let c = h.1 in inl (omega arith, omega arith)
read_part I x n i k (inr h) l = let b = h.0 in let c = h.1 in inr (omega arith, omega arith)

pub outside_refl : (a : Fine) → SameOutside a a
outside_refl a = record { input = refl; out = refl; err = refl; cuts = refl }

pub outside_then : (a b c : Fine) → SameOutside a b → SameOutside b c → SameOutside a c
outside_then a b c s t = record { input = t.input ∙ s.input; out = t.out ∙ s.out; err = t.err ∙ s.err; cuts = t.cuts ∙ s.cuts }

-- i are copied, and k are left
pub record Copying (I : Emitted) (src dst n tmp : ℕ) (f : ℕ → ℕ) (x y i : ℕ) (a0 : Fine) (p k : ℕ) (a : Fine) : Type 0 where
  pub at : a.at ≡ p
  pub r_src : a.regs src + 8 ≡ x + i
  pub r_dst : a.regs dst + 8 ≡ y + i
  pub r_n : a.regs n ≡ k
  pub copied : Copied I f y i a0 a
  pub same : (r : ℕ) → r ≢ src → r ≢ dst → r ≢ n → r ≢ tmp → a.regs r ≡ a0.regs r
  pub outside : SameOutside a0 a

module _ (I : Emitted) (laid : IsLaid I) (Q : ℕ → Type 0) (src dst n tmp : ℕ) (apart : Apart src dst n tmp) (f : ℕ → ℕ) (x y many p : ℕ) (a0 : Fine) (zero0 : a0.regs 0 ≡ 0) (source : Source I a0 f x many) (room : Room I a0 y many) (code : Stands I.code p (bytes_code src dst n tmp)) (clear : (k : ℕ) → p ≤ k → k < p + 7 → Q k) where
  abbrev At : ℕ → Fine → Type 0
  At k a = (i : ℕ) × (i + k ≡ many) × Copying I src dst n tmp f x y i a0 p k a

  low_pc : base + 4 * p < 2 ^ 63
  low_pc = let w = slice_get_within I.code p _ code.0 in let h = (laid_low I laid) in let k = laid.high in omega arith

  round : (k : ℕ) (a : Fine) → At (suc k) a → Trips I Q (λ b. (j : ℕ) × (j ≤ k) × At j b) 7 a
  round k a g =
      let i = g.0 in
      let h = g.2 in
      let e = g.1 in
      let st = stands_at I.code p a.at (bytes_code src dst n tmp) (sym h.at) code in
      let at = h.at in
      let pc = low_pc in
      let sh = source.high in
      let sb = source.behind in
      let rw' = room.within in
      let ra = room.above in
      let high = laid.high in
      let rs = h.r_src in
      let rd = h.r_dst in
      let rn = h.r_n in
      let z : a.regs 0 ≡ 0 = h.copied.steady.x0 ∙ zero0 in
      let x8 : a.regs 8 ≡ a0.regs 8 = h.copied.steady.x8 in
      let v = f i in
      let vs : v < 256 = source.small i in
      let no : (a.regs n == a.regs 0) ≡ false = grind (arith, nat_tests) in
      let is : a.byte (x + i) ≡ v = h.copied.steady.low (x + i) (source.low i (omega arith)) ∙ source.is i (omega arith) in
      let b1 = put tmp v (go (suc a.at) a) in
      let s1 : b1.regs src ≡ a.regs src = with_other a.regs tmp v src apart.src_tmp in
      let d1 : b1.regs dst ≡ a.regs dst = with_other a.regs tmp v dst apart.dst_tmp in
      let n1 : b1.regs n ≡ suc k = with_other a.regs tmp v n apart.n_tmp ∙ rn in
      let t1 : b1.regs tmp ≡ v = with_same a.regs tmp v in
      let z1 : b1.regs 0 ≡ 0 = with_other a.regs tmp v 0 (λ q. apart.tmp0 (sym q)) ∙ z in
      let e1 : b1.regs 8 ≡ a.regs 8 = with_other a.regs tmp v 8 (λ q. apart.tmp8 (sym q)) in
      let b2 = poke (y + i) (v ∷ []) b1 in
      let s2 = a.regs src + 1 in
      let b3 = put src s2 b2 in
      let d3 : b3.regs dst ≡ a.regs dst = with_other b2.regs src s2 dst apart.dst_src ∙ d1 in
      let n3 : b3.regs n ≡ suc k = with_other b2.regs src s2 n apart.n_src ∙ n1 in
      let z3 : b3.regs 0 ≡ 0 = with_other b2.regs src s2 0 (λ q. apart.src0 (sym q)) ∙ z1 in
      let d4 = a.regs dst + 1 in
      let b4 = put dst d4 b3 in
      let n4 : b4.regs n ≡ suc k = with_other b3.regs dst d4 n apart.n_dst ∙ n3 in
      let z4 : b4.regs 0 ≡ 0 = with_other b3.regs dst d4 0 (λ q. apart.dst0 (sym q)) ∙ z3 in
      let b5 = put n k b4 in
      let c = go p b5 in
      falls_then (ins Beq 0 n 0 (pos 28)) st.0 (clear a.at (omega arith) (omega arith)) (omega arith) (zero_known (a.regs 0) z) (ap (λ t. Some t) no)
      (load_then (ins Lbu tmp src 0 (pos 8)) w8 (x + i) v st.1.0 (clear (suc a.at) (omega arith) (omega arith)) (omega arith) refl (omega arith) (omega arith) (read_part I x many i 1 source.reads (omega arith)) (λ j l. let j0 : j ≡ 0 = omega arith in subst (λ j. a.byte (x + i + j) < 256) (sym j0) (let q : x + i + 0 ≡ x + i = omega arith in subst (λ y. a.byte y < 256) (sym q) (omega arith))) is apart.tmp0 apart.tmp8
      (store_then (ins Sb 0 dst tmp (pos 8)) w8 (y + i) (v ∷ []) st.1.1.0 (clear (suc (suc a.at)) (omega arith) (omega arith)) (omega arith) (omega arith) refl (omega arith) (omega arith) (omega arith, omega arith) (ap (λ v. v ∷ []) (omega arith)) (inl (omega arith))
      (alu_then (ins Addi src src 0 (pos 1)) s2 st.1.1.1.0 (clear _ (omega arith) (omega arith)) (omega arith) (zero_known (b2.regs 0) z1) (ap (λ x. Some x) (omega arith)) apart.src0 apart.src8
      (alu_then (ins Addi dst dst 0 (pos 1)) d4 st.1.1.1.1.0 (clear _ (omega arith) (omega arith)) (omega arith) (zero_known (b3.regs 0) z3) (ap (λ x. Some x) (omega arith)) apart.dst0 apart.dst8
      (alu_then (ins Addi n n 0 (negsuc 0)) k st.1.1.1.1.1.0 (clear _ (omega arith) (omega arith)) (omega arith) (zero_known (b4.regs 0) z4) (ap (λ x. Some x) (omega arith)) apart.n0 apart.n8
      (turns_then (negsuc 23) p st.1.1.1.1.1.1.0 (clear _ (omega arith) (omega arith)) (omega arith)
      (finish (
        k,
        omega arith,
        (
          suc i,
          omega arith,
          record {
            at = refl;
            r_src = let q : c.regs src ≡ s2 = with_other b4.regs n k src (λ q. apart.n_src (sym q)) ∙ with_other b3.regs dst d4 src (λ q. apart.dst_src (sym q)) ∙ with_same b2.regs src s2 in omega arith;
            r_dst = let q : c.regs dst ≡ d4 = with_other b4.regs n k dst (λ q. apart.n_dst (sym q)) ∙ with_same b3.regs dst d4 in omega arith;
            r_n = with_same b4.regs n k;
            copied = subst (λ j. Copied I f y j a0 c) (let q : i + 1 ≡ suc i = omega arith in q) (copied_more I f y i 1 a0 a c (v ∷ []) h.copied (record {
              x0 = with_other b4.regs n k 0 (λ q. apart.n0 (sym q)) ∙ z4 ∙ sym z;
              x8 = with_other b4.regs n k 8 (λ q. apart.n8 (sym q)) ∙ with_other b3.regs dst d4 8 (λ q. apart.dst8 (sym q)) ∙ with_other b2.regs src s2 8 (λ q. apart.src8 (sym q)) ∙ e1;
              low = λ u l. untouched u l x8;
            }) refl (λ j l. let j0 : j ≡ 0 = omega arith in subst (λ j. get_or (v ∷ []) j 0 ≡ f (i + j)) (sym j0) (ap f (let q : i ≡ i + 0 = omega arith in q))) (λ u. refl));
            same = λ r ps pd pn pt. with_other b4.regs n k r pn ∙ with_other b3.regs dst d4 r pd ∙ with_other b2.regs src s2 r ps ∙ with_other a.regs tmp v r pt ∙ h.same r ps pd pn pt;
            outside = record { input = h.outside.input; out = h.outside.out; err = h.outside.err; cuts = h.outside.cuts };
          },
        ),
      ))))))))
    where
      untouched : (u : ℕ) → IsLow I (a.regs 8) u → a.regs 8 ≡ a0.regs 8 → (poke (y + g.0) (f g.0 ∷ []) a).byte u ≡ a.byte u
      untouched u (inl l) e = let ra = room.above in let rb = room.arena in bytes_out a.byte (y + g.0) (f g.0 ∷ []) u (inl (omega arith))
      untouched u (inr l) e = let ra = room.above in let rb = l.1 in bytes_out a.byte (y + g.0) (f g.0 ∷ []) u (inl (omega arith))

  out_of : (a : Fine) → At 0 a → Trips I Q (Copying I src dst n tmp f x y many a0 (p + 7) 0) 1 a
  out_of a g =
      let h = g.2 in
      let e : g.0 ≡ many = let q = g.1 in omega arith in
      let st = stands_at I.code p a.at (bytes_code src dst n tmp) (sym h.at) code in
      let at = h.at in
      let pc = low_pc in
      let rn = h.r_n in
      let z : a.regs 0 ≡ 0 = h.copied.steady.x0 ∙ zero0 in
      let yes' : (a.regs n == a.regs 0) ≡ true = grind (arith, nat_tests) in
      takes_then (ins Beq 0 n 0 (pos 28)) (p + 7) st.0 (clear a.at (omega arith) (omega arith)) (omega arith) (zero_known (a.regs 0) z) (ap (λ t. Some t) yes') (omega arith)
      (finish (subst (λ i. Copying I src dst n tmp f x y i a0 (p + 7) 0 (go (p + 7) a)) e (record {
        at = refl;
        r_src = h.r_src;
        r_dst = h.r_dst;
        r_n = h.r_n;
        copied = record { steady = record { x0 = h.copied.steady.x0; x8 = h.copied.steady.x8; low = h.copied.steady.low }; there = h.copied.there; others = h.copied.others };
        same = h.same;
        outside = record { input = h.outside.input; out = h.outside.out; err = h.outside.err; cuts = h.outside.cuts };
      })))

  -- all that are left are copied, in 7 instructions a byte
  pub bytes_copied : (i k : ℕ) (a : Fine) → i + k ≡ many → Copying I src dst n tmp f x y i a0 p k a → Trips I Q (Copying I src dst n tmp f x y many a0 (p + 7) 0) (k * 7 + 1) a
  bytes_copied i k a e h = rounds At 7 1 round out_of k k a (le_refl k) (i, e, h)
