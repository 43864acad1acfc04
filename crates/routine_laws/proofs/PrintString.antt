-- The routine that writes a string does so, under any cuts.
use Rattle.std.proofs.Common.{◌≡◌, ◌≢◌, ℕ, zero, suc, ◌+◌, ◌-◌, ◌*◌, ◌%◌, ◌^◌, ◌<◌, ◌≤◌, pos, negsuc, List, [], ◌∷◌, ◌++◌, length, get_or, Some, true, ◌==◌, arith, refl, sym, ap, ◌∙◌, subst, ⊎_elim, ◌⊎◌, inl, inr, append-nil, append_assoc, le_refl}
use Rattle.std.specs.Int.{w32}
use Rattle.std.proofs.lemmas.Bool.Decides.{nat_tests}
use Rattle.rv_isa.specs.declared.table.Op.TheVariants.{Addi, Add, Sub, Beq, Lwu}
use Rattle.rv_isa.specs.Word.{ins}
use Rattle.rv_machine.specs.Step.{wrapped}
use Rattle.rv_machine.specs.Run.{moved}
use Rattle.simulation.proofs.Heaps.{with_other, eq_cases}
use Rattle.rv_run.specs.Seen.{listed_from}
use Rattle.rv_acts.specs.Emitted.{Emitted, base, IsLaid, CanRead, CanWrite}
use Rattle.rv_acts.specs.Fine.{IsKnown, AllKnown, with_value, with_bytes, Fine}
use Rattle.rv_acts.specs.Act.{put, go, told}
use Rattle.rv_acts.proofs.Bytes.{bytes_out}
use Rattle.rv_acts.proofs.Doing.{moved_some}
use Rattle.rv_acts.proofs.Arena.{word_same}
use Rattle.rv_pieces.specs.Stand.{Stands}
use Rattle.rv_pieces.specs.Pair.{Reaches}
use Rattle.rv_pieces.specs.Route.{Trips}
use Rattle.rv_pieces.proofs.Standing.{zero_known, stands_left, stands_right, stands_at}
use Rattle.rv_pieces.proofs.Then.{finish, then_on, rounds, alu_then, load_then, falls_then, takes_then, turns_then, leaps_then, tells_then}
use Rattle.rv_pieces.proofs.Saving.{IsSaved, save_then, restore_then, la_then}
use Rattle.routine_laws.specs.Places.{save_at, end_at, IsNear}
use Rattle.routine_laws.specs.Strings.{string_words}
use Rattle.routine_laws.proofs.Strings.{laid_low, half_word, some_left}
use Rattle.routine_laws.specs.Print.{t_start, t_loop, t_load, print_code, Telling}

pub record PrintCode (I : Emitted) (p : ℕ) : Type 0 where
  pub start : Stands I.code p (t_start I p)
  pub loop : Stands I.code (p + 9) t_loop
  pub load : Stands I.code (p + 15) (t_load I (p + 15))

pub listed_on : (m : ℕ → ℕ) (x i n : ℕ) → listed_from m x i ++ listed_from m (x + i) n ≡ listed_from m x (i + n)
listed_on m x zero n = let e : x + 0 ≡ x = omega arith in let f : 0 + n ≡ n = omega arith in rw (e, f) refl
listed_on m x (suc i) n =
    let e : x + suc i ≡ suc x + i = omega arith in
    let f : suc i + n ≡ suc (i + n) = omega arith in
    rw (e, f) (ap (λ l. m x ∷ l) (listed_on m (suc x) i n))

pub listed_all : (m : ℕ → ℕ) (x : ℕ) (bs : List ℕ) → ((j : ℕ) → j < length bs → m (x + j) ≡ get_or bs j 0) → listed_from m x (length bs) ≡ bs
listed_all m x [] h = refl
listed_all m x (b ∷ bs) h =
    let first : m x ≡ b = let e : x + 0 ≡ x = omega arith in subst (λ y. m y ≡ b) e (h 0 (omega arith)) in
    let rest = listed_all m (suc x) bs (λ j l. let e : x + suc j ≡ suc x + j = omega arith in subst (λ y. m y ≡ get_or bs j 0) e (h (suc j) (omega arith))) in
    cc

pub record SavedFour (I : Emitted) (a : Fine) (m : ℕ → ℕ) : Type 0 where
  pub r10 : IsSaved m (save_at I) (a.regs 10)
  pub r11 : IsSaved m (save_at I + 8) (a.regs 11)
  pub r12 : IsSaved m (save_at I + 16) (a.regs 12)
  pub r17 : IsSaved m (save_at I + 24) (a.regs 17)

abbrev four_bytes : (ℕ → ℕ) → ℕ → List ℕ → List ℕ → List ℕ → List ℕ → ℕ → ℕ
four_bytes m x n1 n2 n3 n4 = with_bytes (with_bytes (with_bytes (with_bytes m x n1) (x + 8) n2) (x + 16) n3) (x + 24) n4

four_others : (m : ℕ → ℕ) (x : ℕ) (n1 n2 n3 n4 : List ℕ) → length n1 ≡ 8 → length n2 ≡ 8 → length n3 ≡ 8 → length n4 ≡ 8 → (y : ℕ) → (y < x) ⊎ (x + 32 ≤ y) → four_bytes m x n1 n2 n3 n4 y ≡ m y
four_others m x n1 n2 n3 n4 l1 l2 l3 l4 y q = ⊎_elim
    (λ (l : y < x). bytes_out (with_bytes (with_bytes (with_bytes m x n1) (x + 8) n2) (x + 16) n3) (x + 24) n4 y (inl (omega arith)) ∙ bytes_out (with_bytes (with_bytes m x n1) (x + 8) n2) (x + 16) n3 y (inl (omega arith)) ∙ bytes_out (with_bytes m x n1) (x + 8) n2 y (inl (omega arith)) ∙ bytes_out m x n1 y (inl l))
    (λ (l : x + 32 ≤ y). bytes_out (with_bytes (with_bytes (with_bytes m x n1) (x + 8) n2) (x + 16) n3) (x + 24) n4 y (inr (omega arith)) ∙ bytes_out (with_bytes (with_bytes m x n1) (x + 8) n2) (x + 16) n3 y (inr (omega arith)) ∙ bytes_out (with_bytes m x n1) (x + 8) n2 y (inr (omega arith)) ∙ bytes_out m x n1 y (inr (omega arith)))
    q

module _ (I : Emitted) (laid : IsLaid I) (near : IsNear I) (Q : ℕ → Type 0) (p : ℕ) (code : PrintCode I p) (clear : (k : ℕ) → p ≤ k → k < p + 24 → Q k) (in_text : p + 24 ≤ length I.code) (bs : List ℕ) (x top ret : ℕ) (a0 : Fine) (s : Telling I bs x top ret p a0) where
  pc_low : base + 4 * (p + 24) ≤ I.entries.arena - 8192
  pc_low = let a = laid.text in let b = laid.above in omega arith

  reach_save : (k : ℕ) → k < 24 → Reaches (p + k) (save_at I)
  reach_save k l = let a = pc_low in let b = near.near in let c = near.above in record { from = omega arith; to = omega arith; back = omega arith; on = omega arith }

  reach_end : (k : ℕ) → k < 24 → Reaches (p + k) (end_at I)
  reach_end k l = let a = pc_low in let b = near.near in let c = near.above in record { from = omega arith; to = omega arith; back = omega arith; on = omega arith }

  save_write : (k : ℕ) → k ≤ 24 → CanWrite I (save_at I + k) 8
  save_write k l = let c = near.above in (omega arith, omega arith)

  save_mod : (k : ℕ) → k % 8 ≡ 0 → (save_at I + k) % 8 ≡ 0
  save_mod k e = let c = near.above in let z = laid.aligned in omega arith

  save_addr : (k : ℕ) → k < 2048 → (save_at I + wrapped (pos k)) % 2 ^ 64 ≡ save_at I + k
  save_addr k l = let a = near.near in omega arith

  save_known : IsKnown (save_at I)
  save_known = let a = near.near in omega arith

  words_enough : (n : ℕ) → n ≤ 8 * string_words n
  words_enough n = omega arith

  text_high : x + 8 + 8 * string_words (length bs) < 2147545088
  text_high = ⊎_elim
      (λ (q : (I.place ≤ x) × (x + 8 + 8 * string_words (length bs) ≤ I.place + length I.literals)). let a = laid.above in let n = near.near in let c = q.1 in omega arith)
      (λ (q : (I.entries.arena ≤ x) × (x + 8 + 8 * string_words (length bs) ≤ top)). let e = s.high in let n = near.near in let b = q.1 in omega arith)
      s.text.place

  text_reads : (k n : ℕ) → k + n ≤ 8 + 8 * string_words (length bs) → CanRead I (x + k) n
  text_reads k n l = ⊎_elim
      (λ (q : (I.place ≤ x) × (x + 8 + 8 * string_words (length bs) ≤ I.place + length I.literals)). let b = q.0 in let c = q.1 in inl (omega arith, omega arith))
      (λ (q : (I.entries.arena ≤ x) × (x + 8 + 8 * string_words (length bs) ≤ top)). let e = s.high in let a = q.0 in let b = q.1 in inr (omega arith, omega arith))
      s.text.place

  -- no byte of it is in the save area
  text_apart : (k : ℕ) → k < 8 + 8 * string_words (length bs) → (x + k < save_at I) ⊎ (save_at I + 32 ≤ x + k)
  text_apart k l = ⊎_elim
      (λ (q : (I.place ≤ x) × (x + 8 + 8 * string_words (length bs) ≤ I.place + length I.literals)). let a = laid.above in let c = q.1 in inl (omega arith))
      (λ (q : (I.entries.arena ≤ x) × (x + 8 + 8 * string_words (length bs) ≤ top)). let a = q.0 in let c = near.above in inr (omega arith))
      s.text.place

  -- what holds all along the loop: i bytes are written, and k are left
  pub record Midway (i k : ℕ) (a : Fine) : Type 0 where
    pub at : a.at ≡ p + 9
    pub zero_reg : a.regs 0 ≡ 0
    pub r11 : a.regs 11 ≡ x + 8 + i
    pub r12 : a.regs 12 ≡ k
    pub r17 : a.regs 17 ≡ 64
    pub same : (r : ℕ) → r ≢ 9 → r ≢ 10 → r ≢ 11 → r ≢ 12 → r ≢ 17 → a.regs r ≡ a0.regs r
    pub saved : SavedFour I a0 a.byte
    pub others : (y : ℕ) → (y < save_at I) ⊎ (save_at I + 32 ≤ y) → a.byte y ≡ a0.byte y
    pub out : a.out ≡ a0.out ++ listed_from a.byte (x + 8) i
    pub input : a.input ≡ a0.input
    pub err : a.err ≡ a0.err

  start_same : (g : ℕ → ℕ) (u t v w z r : ℕ) → r ≢ 9 → r ≢ 11 → r ≢ 12 → r ≢ 17 → with_value (with_value (with_value (with_value (with_value g 9 u) 9 t) 11 v) 12 w) 17 z r ≡ g r
  start_same g u t v w z r n9 n11 n12 n17 = with_other (with_value (with_value (with_value (with_value g 9 u) 9 t) 11 v) 12 w) 17 z r n17 ∙ with_other (with_value (with_value (with_value g 9 u) 9 t) 11 v) 12 w r n12 ∙ with_other (with_value (with_value g 9 u) 9 t) 11 v r n11 ∙ with_other (with_value g 9 u) 9 t r n9 ∙ with_other g 9 u r n9

  started : Trips I Q (Midway 0 (length bs)) 9 a0
  started =
      let st = stands_at I.code p a0.at (t_start I p) (sym s.at) code.start in
      let at = s.at in
      let nr = near.above in
      let r0 = subst (λ q. Reaches q (save_at I)) (let e : p + 0 ≡ p = omega arith in e) (reach_save 0 (omega arith)) in
      let e0 : save_at I + 0 ≡ save_at I = omega arith in
      let hi = text_high in
      let k0 = zero_known (a0.regs 0) s.zero_reg in
      let k5 : IsKnown (a0.regs 5) = let e = s.x5 in omega arith in
      let v11 : (a0.regs 5 + 8) % 2 ^ 64 ≡ x + 8 + 0 = let e = s.x5 in omega arith in
      let at5 : (a0.regs 5 + wrapped (pos 4)) % 2 ^ 64 ≡ x + 4 = let e = s.x5 in omega arith in
      let al : (x + 4) % 4 ≡ 0 = let e = s.text.aligned in omega arith in
      let v17 : (a0.regs 0 + 64) % 2 ^ 64 ≡ 64 = let e = s.zero_reg in omega arith in
      let m0 : save_at I % 8 ≡ 0 = ap (λ n. n % 8) (sym e0) ∙ save_mod 0 refl in
      la_then 9 p (save_at I) at (omega arith) (omega arith) s.zero_reg r0 st.0 st.1.0 (clear a0.at (omega arith) (omega arith)) (clear (suc a0.at) (omega arith) (omega arith)) (λ u.
      save_then 9 10 (save_at I) 0 st.1.1.0 (clear _ (omega arith) (omega arith)) save_known (save_addr 0 (omega arith) ∙ e0) m0 (subst (λ x. CanWrite I x 8) e0 (save_write 0 (omega arith))) (inr (omega arith)) (λ n1 l1 s1.
      save_then 9 11 (save_at I + 8) 8 st.1.1.1.0 (clear _ (omega arith) (omega arith)) save_known (save_addr 8 (omega arith)) (save_mod 8 refl) (save_write 8 (omega arith)) (inr (omega arith)) (λ n2 l2 s2.
      save_then 9 12 (save_at I + 16) 16 st.1.1.1.1.0 (clear _ (omega arith) (omega arith)) save_known (save_addr 16 (omega arith)) (save_mod 16 refl) (save_write 16 (omega arith)) (inr (omega arith)) (λ n3 l3 s3.
      save_then 9 17 (save_at I + 24) 24 st.1.1.1.1.1.0 (clear _ (omega arith) (omega arith)) save_known (save_addr 24 (omega arith)) (save_mod 24 refl) (save_write 24 (omega arith)) (inr (omega arith)) (λ n4 l4 s4.
      let mm = four_bytes a0.byte (save_at I) n1 n2 n3 n4 in
      let mo = four_others a0.byte (save_at I) n1 n2 n3 n4 l1 l2 l3 l4 in
      let hd = half_word mm x 2 (length bs) (word_same a0.byte mm x _ (λ i l. mo (x + i) (text_apart i (omega arith))) s.text.here.header) (omega arith) (let w = words_enough (length bs) in let h = text_high in omega arith) in
      alu_then (ins Addi 11 5 0 (pos 8)) (x + 8 + 0) st.1.1.1.1.1.1.0 (clear _ (omega arith) (omega arith)) k5 k0 (ap (λ x. Some x) v11) (omega arith) (omega arith)
      (load_then (ins Lwu 12 5 0 (pos 4)) w32 (x + 4) (length bs) st.1.1.1.1.1.1.1.0 (clear _ (omega arith) (omega arith)) k5 refl at5 al (text_reads 4 4 (omega arith)) hd.0 hd.1 (omega arith) (omega arith)
      (alu_then (ins Addi 17 0 0 (pos 64)) 64 st.1.1.1.1.1.1.1.1.0 (clear _ (omega arith) (omega arith)) k0 k0 (ap (λ x. Some x) v17) (omega arith) (omega arith)
      (finish (record {
        at = nine a0.at at;
        zero_reg = s.zero_reg;
        r11 = refl;
        r12 = refl;
        r17 = refl;
        same = λ r n9 n10 n11 n12 n17. start_same a0.regs u (save_at I) (x + 8 + 0) (length bs) 64 r n9 n11 n12 n17;
        saved = record {
          r10 = λ k. word_same (with_bytes a0.byte (save_at I) n1) mm (save_at I) (a0.regs 10) (λ i l. bytes_out (with_bytes (with_bytes (with_bytes a0.byte (save_at I) n1) (save_at I + 8) n2) (save_at I + 16) n3) (save_at I + 24) n4 (save_at I + i) (inl (omega arith)) ∙ bytes_out (with_bytes (with_bytes a0.byte (save_at I) n1) (save_at I + 8) n2) (save_at I + 16) n3 (save_at I + i) (inl (omega arith)) ∙ bytes_out (with_bytes a0.byte (save_at I) n1) (save_at I + 8) n2 (save_at I + i) (inl (omega arith))) (s1 a0.byte k);
          r11 = λ k. word_same (with_bytes (with_bytes a0.byte (save_at I) n1) (save_at I + 8) n2) mm (save_at I + 8) (a0.regs 11) (λ i l. bytes_out (with_bytes (with_bytes (with_bytes a0.byte (save_at I) n1) (save_at I + 8) n2) (save_at I + 16) n3) (save_at I + 24) n4 (save_at I + 8 + i) (inl (omega arith)) ∙ bytes_out (with_bytes (with_bytes a0.byte (save_at I) n1) (save_at I + 8) n2) (save_at I + 16) n3 (save_at I + 8 + i) (inl (omega arith))) (s2 (with_bytes a0.byte (save_at I) n1) k);
          r12 = λ k. word_same (with_bytes (with_bytes (with_bytes a0.byte (save_at I) n1) (save_at I + 8) n2) (save_at I + 16) n3) mm (save_at I + 16) (a0.regs 12) (λ i l. bytes_out (with_bytes (with_bytes (with_bytes a0.byte (save_at I) n1) (save_at I + 8) n2) (save_at I + 16) n3) (save_at I + 24) n4 (save_at I + 16 + i) (inl (omega arith))) (s3 (with_bytes (with_bytes a0.byte (save_at I) n1) (save_at I + 8) n2) k);
          r17 = s4 (with_bytes (with_bytes (with_bytes a0.byte (save_at I) n1) (save_at I + 8) n2) (save_at I + 16) n3);
        };
        others = mo;
        out = sym (append-nil a0.out);
        input = refl;
        err = refl;
      })))))))))
    where
      nine : (n : ℕ) → n ≡ p → suc (suc (suc (suc (suc (suc (suc (suc (suc n)))))))) ≡ p + 9
      nine n e = omega arith

  less_one : (k : ℕ) (n : ℕ) → 0 < n → n ≤ suc k → suc k - n ≤ k
  less_one k n l h = omega arith

  -- one write
  round : (k : ℕ) (a : Fine) → (i : ℕ) × (i + suc k ≡ length bs) × Midway i (suc k) a → Trips I Q (λ b. (j : ℕ) × (j ≤ k) × ((i : ℕ) × (i + j ≡ length bs) × Midway i j b)) 6 a
  round k a g =
      let i = g.0 in
      let e = g.1 in
      let h = g.2 in
      let at = h.at in
      let st = stands_at I.code (p + 9) a.at t_loop (sym at) code.loop in
      let hi = text_high in
      let w = words_enough (length bs) in
      let r11 = h.r11 in
      let r12 = h.r12 in
      let k0 = zero_known (a.regs 0) h.zero_reg in
      let v10 : (a.regs 0 + 1) % 2 ^ 64 ≡ 1 = let z = h.zero_reg in omega arith in
      let k12 : IsKnown (a.regs 12) = omega arith in
      let no = some_left (a.regs 12) (a.regs 0) k r12 h.zero_reg in
      let kx : IsKnown (x + 8 + i) = omega arith in
      let km : IsKnown (suc k) = omega arith in
      let reads : CanRead I (x + 8 + i) (suc k) = subst (λ y. CanRead I y (suc k)) (let q : x + (8 + i) ≡ x + 8 + i = omega arith in q) (text_reads (8 + i) (suc k) (omega arith)) in
      let known : AllKnown a.byte (x + 8 + i) (suc k) = λ j l. let q : x + 8 + (i + j) ≡ x + 8 + i + j = omega arith in subst (λ y. a.byte y < 256) q (subst (λ v. v < 256) (sym (text_byte a h (i + j) (omega arith))) (s.text.small (i + j))) in
      falls_then (ins Beq 0 12 0 (pos 24)) st.0 (clear a.at (omega arith) (omega arith)) k12 k0 (ap (λ t. Some t) no)
      (alu_then (ins Addi 10 0 0 (pos 1)) 1 st.1.0 (clear (suc a.at) (omega arith) (omega arith)) k0 k0 (ap (λ x. Some x) v10) (omega arith) (omega arith)
      (tells_then 1 (x + 8 + i) (suc k) st.1.1.0 (clear (suc (suc a.at)) (omega arith) (omega arith)) (inl refl) (record { x17 = h.r17; x10 = refl; x11 = r11; x12 = r12; from = kx; many = km; some = omega arith }) reads known
      (after (moved a.cuts (suc k)) (moved_some a.cuts (suc k) (omega arith)).0 (moved_some a.cuts (suc k) (omega arith)).1)))
    where
      text_byte : (a : Fine) → Midway g.0 (suc k) a → (j : ℕ) → j < length bs → a.byte (x + 8 + j) ≡ get_or bs j 0
      text_byte a h j l =
          let w = words_enough (length bs) in
          let q : x + (8 + j) ≡ x + 8 + j = omega arith in
          h.others (x + 8 + j) (subst (λ y. (y < save_at I) ⊎ (save_at I + 32 ≤ y)) q (text_apart (8 + j) (omega arith))) ∙ s.text.here.bytes j (omega arith)

      round_same : (f : ℕ → ℕ) (u v w t r : ℕ) → r ≢ 10 → r ≢ 11 → r ≢ 12 → with_value (with_value (with_value (with_value f 10 u) 10 v) 11 w) 12 t r ≡ f r
      round_same f u v w t r n10 n11 n12 = with_other (with_value (with_value (with_value f 10 u) 10 v) 11 w) 12 t r n12 ∙ with_other (with_value (with_value f 10 u) 10 v) 11 w r n11 ∙ with_other (with_value f 10 u) 10 v r n10 ∙ with_other f 10 u r n10

      nine_back : (n : ℕ) → n ≡ p + 9 → base + 4 * (p + 24) ≤ I.entries.arena - 8192 → I.entries.arena < 2147545088 → (base + 4 * suc (suc (suc (suc (suc n)))) + wrapped (negsuc 19)) % 2 ^ 64 ≡ base + 4 * (p + 9)
      nine_back n e l h = omega arith

      taken : (v u n : ℕ) → v ≡ u → n ≤ u → u < 2 ^ 63 → (v + (2 ^ 64 - n)) % 2 ^ 64 ≡ u - n
      taken v u n e l h = omega arith

      after : (n : ℕ) → 0 < n → n ≤ suc k → Trips I Q (λ b. (j : ℕ) × (j ≤ k) × ((i : ℕ) × (i + j ≡ length bs) × Midway i j b)) 3 (told 1 (x + 8 + g.0) n (put 10 1 (go (suc a.at) a)))
      after n some few =
          let i = g.0 in
          let e = g.1 in
          let h = g.2 in
          let at = h.at in
          let st = stands_at I.code (p + 9) a.at t_loop (sym at) code.loop in
          let hi = text_high in
          let w = words_enough (length bs) in
          let r11 = h.r11 in
          let r12 = h.r12 in
          let nr = near.near in
          let kn : IsKnown n = omega arith in
          let k11 : IsKnown (a.regs 11) = omega arith in
          let k12 : IsKnown (a.regs 12) = omega arith in
          let v11 : (a.regs 11 + n) % 2 ^ 64 ≡ x + 8 + (i + n) = omega arith in
          let v12 = taken (a.regs 12) (suc k) n r12 few (omega arith) in
          alu_then (ins Add 11 11 10 (pos 0)) (x + 8 + (i + n)) st.1.1.1.0 (clear (suc (suc (suc a.at))) (omega arith) (omega arith)) k11 kn (ap (λ x. Some x) v11) (omega arith) (omega arith)
          (alu_then (ins Sub 12 12 10 (pos 0)) (suc k - n) st.1.1.1.1.0 (clear (suc (suc (suc (suc a.at)))) (omega arith) (omega arith)) k12 kn (ap (λ x. Some x) v12) (omega arith) (omega arith)
          (turns_then (negsuc 19) (p + 9) st.1.1.1.1.1.0 (clear (suc (suc (suc (suc (suc a.at))))) (omega arith) (omega arith)) (nine_back a.at at pc_low (omega arith))
          (finish (
            suc k - n,
            less_one k n some few,
            (
              i + n,
              omega arith,
              record {
                at = refl;
                zero_reg = h.zero_reg;
                r11 = refl;
                r12 = refl;
                r17 = h.r17;
                same = λ r n9 n10 n11 n12 n17. round_same a.regs 1 n (x + 8 + (i + n)) (suc k - n) r n10 n11 n12 ∙ h.same r n9 n10 n11 n12 n17;
                saved = h.saved;
                others = h.others;
                out = ap (λ l. l ++ listed_from a.byte (x + 8 + i) n) h.out ∙ append_assoc a0.out (listed_from a.byte (x + 8) i) (listed_from a.byte (x + 8 + i) n) ∙ ap (λ l. a0.out ++ l) (listed_on a.byte (x + 8) i n);
                input = h.input;
                err = h.err;
              },
            ),
          ))))

  -- all is written, and what was changed for the calls is as before
  pub record Told (b : Fine) : Type 0 where
    pub at : b.at ≡ ret
    pub zero_reg : b.regs 0 ≡ 0
    pub r9 : b.regs 9 ≡ end_at I
    pub same : (r : ℕ) → r ≢ 9 → IsKnown (a0.regs r) → b.regs r ≡ a0.regs r
    pub others : (y : ℕ) → (y < save_at I) ⊎ (save_at I + 32 ≤ y) → b.byte y ≡ a0.byte y
    pub out : b.out ≡ a0.out ++ bs
    pub input : b.input ≡ a0.input
    pub err : b.err ≡ a0.err

  ended : ret < length I.code → (a : Fine) → (i : ℕ) × (i + 0 ≡ length bs) × Midway i 0 a → Trips I Q Told 10 a
  ended rc a g =
      let h = g.2 in
      let e : g.0 ≡ length bs = let q = g.1 in omega arith in
      let at = h.at in
      let st = stands_at I.code (p + 9) a.at t_loop (sym at) code.loop in
      let nr = near.near in
      let lo = (laid_low I laid) in
      let hi = laid.high in
      let r12 = h.r12 in
      let k0 = zero_known (a.regs 0) h.zero_reg in
      let k12 : IsKnown (a.regs 12) = omega arith in
      let yes' : (a.regs 12 == a.regs 0) ≡ true = let z = h.zero_reg in grind (arith, nat_tests) in
      let c = code.load in
      let r31 : a.regs 31 ≡ base + 4 * ret = h.same 31 (omega arith) (omega arith) (omega arith) (omega arith) (omega arith) ∙ s.x31 in
      let k31 : IsKnown (a.regs 31) = omega arith in
      let to31 : (a.regs 31 + wrapped (pos 0)) % 2 ^ 64 ≡ base + 4 * ret = omega arith in
      let e0 : save_at I + 0 ≡ save_at I = omega arith in
      let m0 : save_at I % 8 ≡ 0 = ap (λ n. n % 8) (sym e0) ∙ save_mod 0 refl in
      let reach21 : Reaches (p + 15 + 6) (end_at I) = subst (λ q. Reaches q (end_at I)) (let e : p + 21 ≡ p + 15 + 6 = omega arith in e) (reach_end 21 (omega arith)) in
      let onto : (base + 4 * a.at + wrapped (pos 24)) % 2 ^ 64 ≡ base + 4 * (p + 15) = six_on a.at at pc_low (omega arith) in
      let whole : a.out ≡ a0.out ++ bs = h.out ∙ ap (λ l. a0.out ++ l) (ap (listed_from a.byte (x + 8)) e ∙ listed_all a.byte (x + 8) bs (λ j l. text_byte j l)) in
      takes_then (ins Beq 0 12 0 (pos 24)) (p + 15) st.0 (clear a.at (omega arith) (omega arith)) k12 k0 (ap (λ t. Some t) yes') onto
      (la_then 9 (p + 15) (save_at I) refl (omega arith) (omega arith) h.zero_reg (reach_save 15 (omega arith)) c.0 c.1.0 (clear (p + 15) (omega arith) (omega arith)) (clear (suc (p + 15)) (omega arith) (omega arith)) (λ u.
      restore_then 9 10 (save_at I) 0 (a0.regs 10) c.1.1.0 (clear (suc (suc (p + 15))) (omega arith) (omega arith)) save_known (save_addr 0 (omega arith) ∙ e0) m0 (inr (subst (λ x. CanWrite I x 8) e0 (save_write 0 (omega arith)))) (omega arith) (omega arith) h.saved.r10 (λ v10 e10.
      restore_then 9 11 (save_at I + 8) 8 (a0.regs 11) c.1.1.1.0 (clear (suc (suc (suc (p + 15)))) (omega arith) (omega arith)) save_known (save_addr 8 (omega arith)) (save_mod 8 refl) (inr (save_write 8 (omega arith))) (omega arith) (omega arith) h.saved.r11 (λ v11 e11.
      restore_then 9 12 (save_at I + 16) 16 (a0.regs 12) c.1.1.1.1.0 (clear (suc (suc (suc (suc (p + 15))))) (omega arith) (omega arith)) save_known (save_addr 16 (omega arith)) (save_mod 16 refl) (inr (save_write 16 (omega arith))) (omega arith) (omega arith) h.saved.r12 (λ v12 e12.
      restore_then 9 17 (save_at I + 24) 24 (a0.regs 17) c.1.1.1.1.1.0 (clear (suc (suc (suc (suc (suc (p + 15)))))) (omega arith) (omega arith)) save_known (save_addr 24 (omega arith)) (save_mod 24 refl) (inr (save_write 24 (omega arith))) (omega arith) (omega arith) h.saved.r17 (λ v17 e17.
      la_then 9 (p + 15 + 6) (end_at I) (omega arith) (omega arith) (omega arith) h.zero_reg reach21 c.1.1.1.1.1.1.0 c.1.1.1.1.1.1.1.0 (clear (suc (suc (suc (suc (suc (suc (p + 15))))))) (omega arith) (omega arith)) (clear (suc (suc (suc (suc (suc (suc (suc (p + 15)))))))) (omega arith) (omega arith)) (λ y.
      leaps_then 31 ret (pos 0) c.1.1.1.1.1.1.1.1.0 (clear (suc (suc (suc (suc (suc (suc (suc (suc (p + 15))))))))) (omega arith) (omega arith)) k31 to31
      (finish (record {
        at = refl;
        zero_reg = h.zero_reg;
        r9 = refl;
        same = λ r n9 k. each u (save_at I) v10 v11 v12 v17 y r n9 k e10 e11 e12 e17;
        others = h.others;
        out = whole;
        input = h.input;
        err = h.err;
      })))))))))
    where
      six_on : (n : ℕ) → n ≡ p + 9 → base + 4 * (p + 24) ≤ I.entries.arena - 8192 → I.entries.arena < 2147545088 → (base + 4 * n + wrapped (pos 24)) % 2 ^ 64 ≡ base + 4 * (p + 15)
      six_on n e l h = omega arith

      text_byte : (j : ℕ) → j < length bs → a.byte (x + 8 + j) ≡ get_or bs j 0
      text_byte j l =
          let w = words_enough (length bs) in
          let q : x + (8 + j) ≡ x + 8 + j = omega arith in
          g.2.others (x + 8 + j) (subst (λ y. (y < save_at I) ⊎ (save_at I + 32 ≤ y)) q (text_apart (8 + j) (omega arith))) ∙ s.text.here.bytes j (omega arith)

      each : (u t v w q o y r : ℕ) → r ≢ 9 → IsKnown (a0.regs r) → (IsKnown (a0.regs 10) → v ≡ a0.regs 10) → (IsKnown (a0.regs 11) → w ≡ a0.regs 11) → (IsKnown (a0.regs 12) → q ≡ a0.regs 12) → (IsKnown (a0.regs 17) → o ≡ a0.regs 17) → with_value (with_value (with_value (with_value (with_value (with_value (with_value (with_value a.regs 9 u) 9 t) 10 v) 11 w) 12 q) 17 o) 9 y) 9 (end_at I) r ≡ a0.regs r
      each u t v w q o y r n9 k e10 e11 e12 e17 =
          let F = with_value (with_value (with_value (with_value (with_value (with_value (with_value (with_value a.regs 9 u) 9 t) 10 v) 11 w) 12 q) 17 o) 9 y) 9 (end_at I) in
          ⊎_elim
          (λ (z : r ≡ 10). subst (λ r. IsKnown (a0.regs r) → F r ≡ a0.regs r) (sym z) e10 k)
          (λ (n10 : r ≢ 10). ⊎_elim
          (λ (z : r ≡ 11). subst (λ r. IsKnown (a0.regs r) → F r ≡ a0.regs r) (sym z) e11 k)
          (λ (n11 : r ≢ 11). ⊎_elim
          (λ (z : r ≡ 12). subst (λ r. IsKnown (a0.regs r) → F r ≡ a0.regs r) (sym z) e12 k)
          (λ (n12 : r ≢ 12). ⊎_elim
          (λ (z : r ≡ 17). subst (λ r. IsKnown (a0.regs r) → F r ≡ a0.regs r) (sym z) e17 k)
          (λ (n17 : r ≢ 17).
          with_other (with_value (with_value (with_value (with_value (with_value (with_value (with_value a.regs 9 u) 9 t) 10 v) 11 w) 12 q) 17 o) 9 y) 9 (end_at I) r n9
          ∙ with_other (with_value (with_value (with_value (with_value (with_value (with_value a.regs 9 u) 9 t) 10 v) 11 w) 12 q) 17 o) 9 y r n9
          ∙ with_other (with_value (with_value (with_value (with_value (with_value a.regs 9 u) 9 t) 10 v) 11 w) 12 q) 17 o r n17
          ∙ with_other (with_value (with_value (with_value (with_value a.regs 9 u) 9 t) 10 v) 11 w) 12 q r n12
          ∙ with_other (with_value (with_value (with_value a.regs 9 u) 9 t) 10 v) 11 w r n11
          ∙ with_other (with_value (with_value a.regs 9 u) 9 t) 10 v r n10
          ∙ with_other (with_value a.regs 9 u) 9 t r n9 ∙ with_other a.regs 9 u r n9
          ∙ g.2.same r n9 n10 n11 n12 n17)
          (eq_cases r 17))
          (eq_cases r 12))
          (eq_cases r 11))
          (eq_cases r 10)

  -- in at most 19 and 6 a byte
  pub print_done : ret < length I.code → Trips I Q Told (9 + (length bs * 6 + 10)) a0
  print_done rc =
      then_on 9 (length bs * 6 + 10) started (λ b t h.
      rounds (λ k a. (i : ℕ) × (i + k ≡ length bs) × Midway i k a) 6 10 round (ended rc) (length bs) (length bs) b (le_refl (length bs)) (0, omega arith, h))

pub print_stands : (I : Emitted) (p : ℕ) → Stands I.code p (print_code I p) → PrintCode I p
print_stands I p st =
    let s1 = stands_right I.code p (t_start I p) (t_loop ++ t_load I (p + 15)) st in
    let s2 = stands_at I.code (p + 9 + 6) (p + 15) (t_load I (p + 15)) (omega arith) (stands_right I.code (p + 9) t_loop (t_load I (p + 15)) s1) in
    record {
      start = stands_left I.code p (t_start I p) (t_loop ++ t_load I (p + 15)) st;
      loop = stands_left I.code (p + 9) t_loop (t_load I (p + 15)) s1;
      load = s2;
    }
