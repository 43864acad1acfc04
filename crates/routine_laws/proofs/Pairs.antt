-- The loop of a turn over two blocks of one shape: for each field, from last to first, a pending pair is put in front of the list.
use Rattle.std.proofs.Common.{◌≡◌, ◌≢◌, ℕ, zero, suc, ◌+◌, ◌-◌, ◌*◌, ◌%◌, ◌^◌, ◌<◌, ◌≤◌, pos, negsuc, length, Some, true, false, not, ◌==◌, arith, refl, sym, ap, ◌∙◌, subst, ⊎_elim, ◌⊎◌, inl, inr}
use Rattle.std.specs.Prelude.{slice_get, nat_lt}
use Rattle.std.specs.Int.{w64, to_le_bytes}
use Rattle.std.proofs.lemmas.Bool.{cases_lt}
use Rattle.std.proofs.lemmas.Bool.Decides.{nat_tests}
use Rattle.rv_isa.specs.declared.table.Op.TheVariants.{Addi, Slli, Bne, Bgeu, Ld, Sd}
use Rattle.rv_isa.specs.Word.{ins}
use Rattle.rv_machine.specs.Step.{wrapped}
use Rattle.simulation.proofs.Heaps.{with_other}
use Rattle.rv_acts.specs.Emitted.{Emitted, base, IsLaid, CanRead, CanWrite}
use Rattle.rv_acts.specs.Fine.{IsKnown, with_value, with_bytes, Fine}
use Rattle.rv_acts.specs.Act.{put, go, alu}
use Rattle.rv_acts.specs.Trip.{IsLow, WordIs}
use Rattle.rv_acts.proofs.Bytes.{bytes_out}
use Rattle.rv_acts.proofs.Arena.{word_same}
use Rattle.rv_pieces.specs.Stand.{Stands}
use Rattle.rv_pieces.specs.Pair.{Reaches}
use Rattle.rv_pieces.specs.Route.{Trips, Grows, Routes}
use Rattle.rv_pieces.proofs.Standing.{zero_known, stands_at}
use Rattle.rv_pieces.proofs.Words.{written}
use Rattle.rv_pieces.proofs.Then.{value_is, finish, alu_then, load_then, store_then, falls_then, takes_then}
use Rattle.rv_pieces.proofs.Saving.{jump_then}
use Rattle.rv_pieces.proofs.Routing.{arrive, trip_first, grow_first, route_within}
use Rattle.routine_laws.specs.Places.{end_at, IsNear}
use Rattle.routine_laws.specs.Strings.{SameOutside}
use Rattle.routine_laws.specs.Equal.{pair_header, q_make, q_words, q_next, PairAt, Fields}

pub record PairsCode (I : Emitted) (p full : ℕ) : Type 0 where
  pub make : Stands I.code p (q_make p full)
  pub words : Stands I.code (p + 5) q_words
  pub next : Stands I.code (p + 16) q_next

abbrev pub four_words : (ℕ → ℕ) → ℕ → ℕ → ℕ → ℕ → ℕ → ℕ → ℕ
four_words m y h u v n = with_bytes (with_bytes (with_bytes (with_bytes m y (to_le_bytes w64 h)) (y + 8) (to_le_bytes w64 u)) (y + 16) (to_le_bytes w64 v)) (y + 24) (to_le_bytes w64 n)

pub pair_written : (m : ℕ → ℕ) (y u v n : ℕ) → u < 2 ^ 64 → v < 2 ^ 64 → n < 2 ^ 64 → PairAt (four_words m y pair_header u v n) y u v n
pair_written m y u v n lu lv ln = record {
  header = word_same (with_bytes m y (to_le_bytes w64 pair_header)) (four_words m y pair_header u v n) y pair_header (λ i l. bytes_out (with_bytes (with_bytes (with_bytes m y (to_le_bytes w64 pair_header)) (y + 8) (to_le_bytes w64 u)) (y + 16) (to_le_bytes w64 v)) (y + 24) (to_le_bytes w64 n) (y + i) (inl (omega arith)) ∙ bytes_out (with_bytes (with_bytes m y (to_le_bytes w64 pair_header)) (y + 8) (to_le_bytes w64 u)) (y + 16) (to_le_bytes w64 v) (y + i) (inl (omega arith)) ∙ bytes_out (with_bytes m y (to_le_bytes w64 pair_header)) (y + 8) (to_le_bytes w64 u) (y + i) (inl (omega arith))) (written m y pair_header (omega arith));
  left = word_same (with_bytes (with_bytes m y (to_le_bytes w64 pair_header)) (y + 8) (to_le_bytes w64 u)) (four_words m y pair_header u v n) (y + 8) u (λ i l. bytes_out (with_bytes (with_bytes (with_bytes m y (to_le_bytes w64 pair_header)) (y + 8) (to_le_bytes w64 u)) (y + 16) (to_le_bytes w64 v)) (y + 24) (to_le_bytes w64 n) (y + 8 + i) (inl (omega arith)) ∙ bytes_out (with_bytes (with_bytes m y (to_le_bytes w64 pair_header)) (y + 8) (to_le_bytes w64 u)) (y + 16) (to_le_bytes w64 v) (y + 8 + i) (inl (omega arith))) (written (with_bytes m y (to_le_bytes w64 pair_header)) (y + 8) u lu);
  right = word_same (with_bytes (with_bytes (with_bytes m y (to_le_bytes w64 pair_header)) (y + 8) (to_le_bytes w64 u)) (y + 16) (to_le_bytes w64 v)) (four_words m y pair_header u v n) (y + 16) v (λ i l. bytes_out (with_bytes (with_bytes (with_bytes m y (to_le_bytes w64 pair_header)) (y + 8) (to_le_bytes w64 u)) (y + 16) (to_le_bytes w64 v)) (y + 24) (to_le_bytes w64 n) (y + 16 + i) (inl (omega arith))) (written (with_bytes (with_bytes m y (to_le_bytes w64 pair_header)) (y + 8) (to_le_bytes w64 u)) (y + 16) v lv);
  rest = written (with_bytes (with_bytes (with_bytes m y (to_le_bytes w64 pair_header)) (y + 8) (to_le_bytes w64 u)) (y + 16) (to_le_bytes w64 v)) (y + 24) n ln;
}

pub four_below : (m : ℕ → ℕ) (y h u v n x : ℕ) → x < y → four_words m y h u v n x ≡ m x
four_below m y h u v n x l = bytes_out (with_bytes (with_bytes (with_bytes m y (to_le_bytes w64 h)) (y + 8) (to_le_bytes w64 u)) (y + 16) (to_le_bytes w64 v)) (y + 24) (to_le_bytes w64 n) x (inl (omega arith)) ∙ bytes_out (with_bytes (with_bytes m y (to_le_bytes w64 h)) (y + 8) (to_le_bytes w64 u)) (y + 16) (to_le_bytes w64 v) x (inl (omega arith)) ∙ bytes_out (with_bytes m y (to_le_bytes w64 h)) (y + 8) (to_le_bytes w64 u) x (inl (omega arith)) ∙ bytes_out m y (to_le_bytes w64 h) x (inl l)

-- each byte of a pair is known
pub pair_known : (m : ℕ → ℕ) (y u v n : ℕ) → PairAt m y u v n → (x : ℕ) → y ≤ x → x < y + 32 → m x < 256
pair_known m y u v n p x l h = ⊎_elim
    (λ (q : x < y + 8). let e : y + (x - y) ≡ x = omega arith in subst (λ x. m x < 256) e (p.header.known (x - y) (omega arith)))
    (λ (q : y + 8 ≤ x). ⊎_elim
    (λ (r : x < y + 16). let e : y + 8 + (x - (y + 8)) ≡ x = omega arith in subst (λ x. m x < 256) e (p.left.known (x - (y + 8)) (omega arith)))
    (λ (r : y + 16 ≤ x). ⊎_elim
    (λ (t : x < y + 24). let e : y + 16 + (x - (y + 16)) ≡ x = omega arith in subst (λ x. m x < 256) e (p.right.known (x - (y + 16)) (omega arith)))
    (λ (t : y + 24 ≤ x). let e : y + 24 + (x - (y + 24)) ≡ x = omega arith in subst (λ x. m x < 256) e (p.rest.known (x - (y + 24)) (omega arith)))
    (cases_lt x (y + 24)))
    (cases_lt x (y + 16)))
    (cases_lt x (y + 8))

pub pair_same : (m m' : ℕ → ℕ) (y u v n : ℕ) → ((x : ℕ) → y ≤ x → x < y + 32 → m' x ≡ m x) → PairAt m y u v n → PairAt m' y u v n
pair_same m m' y u v n h q = record {
  header = word_same m m' y pair_header (λ i l. h (y + i) (omega arith) (omega arith)) q.header;
  left = word_same m m' (y + 8) u (λ i l. h (y + 8 + i) (omega arith) (omega arith)) q.left;
  right = word_same m m' (y + 16) v (λ i l. h (y + 16 + i) (omega arith) (omega arith)) q.right;
  rest = word_same m m' (y + 24) n (λ i l. h (y + 24 + i) (omega arith) (omega arith)) q.rest;
}

module _ (I : Emitted) (laid : IsLaid I) (near : IsNear I) (Q : ℕ → Type 0) (p full : ℕ) (code : PairsCode I p full) (clear : (k : ℕ) → p ≤ k → k < p + 20 → Q k) (in_text : p + 20 ≤ length I.code) (full_in : full < length I.code) (xa xb top many list : ℕ) (f g : ℕ → ℕ) (a0 : Fine) (top_at : top % 8 ≡ 0) (top_low : I.entries.arena ≤ top) (list_small : list < 2 ^ 64) (first : Fields I top a0.byte xa many f) (second : Fields I top a0.byte xb many g) where
  pc_low : base + 4 * (p + 20) ≤ I.entries.arena - 8192
  pc_low = let a = laid.text in let b = laid.above in omega arith

  -- the list after i pairs
  abbrev pub list_at : ℕ → ℕ
  list_at zero = list
  list_at (suc i) = top + 32 * i

  -- i pairs are made, and k fields are left
  pub record Pushing (i k at : ℕ) (a : Fine) : Type 0 where
    pub at_is : a.at ≡ at
    pub zero_reg : a.regs 0 ≡ 0
    pub r5 : a.regs 5 ≡ xa + 8 * k
    pub r6 : a.regs 6 ≡ xb + 8 * k
    pub r7 : a.regs 7 ≡ 8 * k
    pub r8 : a.regs 8 ≡ top + 32 * i
    pub r9 : a.regs 9 ≡ end_at I
    pub r11 : a.regs 11 ≡ list_at i
    pub room : top + 32 * i ≤ end_at I
    pub pairs : (j : ℕ) → j < i → PairAt a.byte (top + 32 * j) (f (many - j)) (g (many - j)) (list_at j)
    pub low : (x : ℕ) → IsLow I top x → a.byte x ≡ a0.byte x
    pub same : (r : ℕ) → r ≢ 5 → r ≢ 6 → r ≢ 7 → r ≢ 8 → r ≢ 11 → r ≢ 31 → a.regs r ≡ a0.regs r
    pub outside : SameOutside a0 a

  -- there is no room for the next pair
  pub record PairFull (b : Fine) : Type 0 where
    pub at : b.at ≡ full
    pub r12 : b.regs 12 ≡ 4
    pub used : (i : ℕ) × (b.regs 8 ≡ top + 32 * i) × (end_at I < b.regs 8 + 32)
    pub outside : SameOutside a0 b

  abbrev pub Pushed : Fine → Type 0
  Pushed b = Pushing many 0 (p + 20) b ⊎ PairFull b

  list_known : (i : ℕ) → top + 32 * i ≤ end_at I → list_at i < 2 ^ 64
  list_known zero l = list_small
  list_known (suc i) l = let n = near.near in omega arith

  fields_read : (x j : ℕ) (h : ℕ → ℕ) → Fields I top a0.byte x many h → 0 < j → j ≤ many → top ≤ end_at I → CanRead I (x + 8 * j) 8
  fields_read x j h q z l e = ⊎_elim
      (λ (r : (I.place ≤ x) × (x + 8 + 8 * many ≤ I.place + length I.literals)). let b = r.0 in let c = r.1 in inl (omega arith, omega arith))
      (λ (r : (I.entries.arena ≤ x) × (x + 8 + 8 * many ≤ top)). let a = r.0 in let b = r.1 in inr (omega arith, omega arith))
      q.place

  fields_low : (x j : ℕ) (h : ℕ → ℕ) → Fields I top a0.byte x many h → 0 < j → j ≤ many → (i : ℕ) → i < 8 → IsLow I top (x + 8 * j + i)
  fields_low x j h q z l i k = ⊎_elim
      (λ (r : (I.place ≤ x) × (x + 8 + 8 * many ≤ I.place + length I.literals)). let a = laid.above in let c = r.1 in inl (omega arith))
      (λ (r : (I.entries.arena ≤ x) × (x + 8 + 8 * many ≤ top)). let a = r.0 in let b = r.1 in inr (omega arith, omega arith))
      q.place

  fields_high : (x : ℕ) (h : ℕ → ℕ) → Fields I top a0.byte x many h → top ≤ end_at I → x + 8 * many < 2147545088
  fields_high x h q e = ⊎_elim
      (λ (r : (I.place ≤ x) × (x + 8 + 8 * many ≤ I.place + length I.literals)). let a = laid.above in let n = near.near in let c = r.1 in omega arith)
      (λ (r : (I.entries.arena ≤ x) × (x + 8 + 8 * many ≤ top)). let n = near.near in let b = r.1 in omega arith)
      q.place

  test_room : (v w : ℕ) → w ≤ v → not (nat_lt v w) ≡ true
  test_room v w l = grind (arith, nat_tests)

  test_full : (v w : ℕ) → v < w → not (nat_lt v w) ≡ false
  test_full v w l = grind (arith, nat_tests)

  on_four : (n : ℕ) → n ≡ p → base + 4 * (p + 20) ≤ I.entries.arena - 8192 → I.entries.arena < 2147545088 → (base + 4 * suc n + wrapped (pos 16)) % 2 ^ 64 ≡ base + 4 * (p + 5)
  on_four n e l h = omega arith

  abbrev pub Checked : ℕ → ℕ → Fine → Type 0
  Checked i k b = (Pushing i k (p + 5) b × (top + 32 * i + 32 ≤ end_at I)) ⊎ PairFull b

  -- is there room?
  checked : (i k : ℕ) (a : Fine) → Pushing i k p a → Trips I Q (Checked i k) 5 a
  checked i k a h =
      let at = h.at_is in
      let st = stands_at I.code p a.at (q_make p full) (sym at) code.make in
      let nr = near.near in
      let ro = h.room in
      let r8 = h.r8 in
      let r9 = h.r9 in
      let v31 : (a.regs 8 + 32) % 2 ^ 64 ≡ top + 32 * i + 32 = omega arith in
      let k8 : IsKnown (a.regs 8) = omega arith in
      let k9 : IsKnown (a.regs 9) = omega arith in
      let k31 : IsKnown (top + 32 * i + 32) = omega arith in
      let k0 = zero_known (a.regs 0) h.zero_reg in
      let v12 : (a.regs 0 + 4) % 2 ^ 64 ≡ 4 = let z = h.zero_reg in omega arith in
      let onto = on_four a.at at pc_low (omega arith) in
      let rf : Reaches (p + 3) (base + 4 * full) = let a = pc_low in let c = near.above in let t = laid.text in let v = laid.above in record { from = omega arith; to = omega arith; back = omega arith; on = omega arith } in
      alu_then (ins Addi 31 8 0 (pos 32)) (top + 32 * i + 32) st.0 (clear a.at (omega arith) (omega arith)) k8 k0 (ap (λ x. Some x) v31) (omega arith) (omega arith)
      (⊎_elim
      (λ (l : end_at I < top + 32 * i + 32).
      falls_then (ins Bgeu 0 9 31 (pos 16)) st.1.0 (clear (suc a.at) (omega arith) (omega arith)) k9 k31 (ap (λ t. Some t) (test_full (a.regs 9) (top + 32 * i + 32) (omega arith)))
      (alu_then (ins Addi 12 0 0 (pos 4)) 4 st.1.1.0 (clear (suc (suc a.at)) (omega arith) (omega arith)) k0 k0 (ap (λ x. Some x) v12) (omega arith) (omega arith)
      (jump_then (p + 3) full (omega arith) h.zero_reg rf st.1.1.1.0 st.1.1.1.1.0 (clear (suc (suc (suc a.at))) (omega arith) (omega arith)) (clear (suc (suc (suc (suc a.at)))) (omega arith) (omega arith)) (λ u.
      finish (inr (record { at = refl; r12 = refl; used = (i, r8, omega arith); outside = record { input = h.outside.input; out = h.outside.out; err = h.outside.err; cuts = h.outside.cuts } }))))))
      (λ (l : top + 32 * i + 32 ≤ end_at I).
      takes_then (ins Bgeu 0 9 31 (pos 16)) (p + 5) st.1.0 (clear (suc a.at) (omega arith) (omega arith)) k9 k31 (ap (λ t. Some t) (test_room (a.regs 9) (top + 32 * i + 32) (omega arith))) onto
      (finish (inl (
        record {
          at_is = refl;
          zero_reg = h.zero_reg;
          r5 = h.r5;
          r6 = h.r6;
          r7 = h.r7;
          r8 = h.r8;
          r9 = h.r9;
          r11 = h.r11;
          room = h.room;
          pairs = h.pairs;
          low = h.low;
          same = λ r n5 n6 n7 n8 n11 n31. with_other a.regs 31 (top + 32 * i + 32) r n31 ∙ h.same r n5 n6 n7 n8 n11 n31;
          outside = record { input = h.outside.input; out = h.outside.out; err = h.outside.err; cuts = h.outside.cuts };
        },
        l,
      ))))
      (cases_lt (end_at I) (top + 32 * i + 32)))

  -- the pair's words are there, and x8 is still before them
  pub record Worded (i k : ℕ) (c : Fine) : Type 0 where
    pub at_is : c.at ≡ p + 15
    pub zero_reg : c.regs 0 ≡ 0
    pub r5 : c.regs 5 ≡ xa + 8 * suc k
    pub r6 : c.regs 6 ≡ xb + 8 * suc k
    pub r7 : c.regs 7 ≡ 8 * suc k
    pub r8 : c.regs 8 ≡ top + 32 * i
    pub r9 : c.regs 9 ≡ end_at I
    pub r11 : c.regs 11 ≡ top + 32 * i
    pub room : top + 32 * i + 32 ≤ end_at I
    pub pair : PairAt c.byte (top + 32 * i) (f (many - i)) (g (many - i)) (list_at i)
    pub pairs : (j : ℕ) → j < i → PairAt c.byte (top + 32 * j) (f (many - j)) (g (many - j)) (list_at j)
    pub low : (x : ℕ) → IsLow I top x → c.byte x ≡ a0.byte x
    pub same : (r : ℕ) → r ≢ 5 → r ≢ 6 → r ≢ 7 → r ≢ 8 → r ≢ 11 → r ≢ 31 → c.regs r ≡ a0.regs r
    pub outside : SameOutside a0 c

  under_new : (x i : ℕ) → IsLow I top x → x < top + 32 * i
  under_new x i (inl l) = let n = near.above in omega arith
  under_new x i (inr l) = let b = l.1 in omega arith

  shift3 : 3 * 2 ^ 32 % 2 ^ 64 ≡ 12884901888
  shift3 = omega arith

  words_same : (h : ℕ → ℕ) (u v w x y z r : ℕ) → r ≢ 11 → r ≢ 31 → with_value (with_value (with_value (with_value (with_value (with_value h 31 u) 31 v) 31 w) 31 x) 31 y) 11 z r ≡ h r
  words_same h u v w x y z r n11 n31 = with_other (with_value (with_value (with_value (with_value (with_value h 31 u) 31 v) 31 w) 31 x) 31 y) 11 z r n11 ∙ with_other (with_value (with_value (with_value (with_value h 31 u) 31 v) 31 w) 31 x) 31 y r n31 ∙ with_other (with_value (with_value (with_value h 31 u) 31 v) 31 w) 31 x r n31 ∙ with_other (with_value (with_value h 31 u) 31 v) 31 w r n31 ∙ with_other (with_value h 31 u) 31 v r n31 ∙ with_other h 31 u r n31

  -- a word is stored above x8
  to_store : (v t k : ℕ) → v ≡ t → t + 32 < 2 ^ 62 → k ≤ 24 → (v + wrapped (pos k)) % 2 ^ 64 ≡ t + k
  to_store v t k e l h = omega arith

  words_put : (i k : ℕ) (b : Fine) → i + suc k ≡ many → Pushing i (suc k) (p + 5) b → top + 32 * i + 32 ≤ end_at I → Trips I Q (Worded i k) 10 b
  words_put i k b e h ro =
      let at = h.at_is in
      let st = stands_at I.code (p + 5) b.at q_words (sym at) code.words in
      let nr = near.near in
      let na = near.above in
      let T = top + 32 * i in
      let Tm : (top + 32 * i) % 8 ≡ 0 = omega arith in
      let te : top ≤ end_at I = omega arith in
      let k0 = zero_known (b.regs 0) h.zero_reg in
      let k8 : IsKnown (b.regs 8) = let r = h.r8 in omega arith in
      let ln = list_known i (omega arith) in
      let k11 : IsKnown (b.regs 11) = let r = h.r11 in omega arith in
      let sm = top_small ro in
      let s0 : (b.regs 8 + wrapped (pos 0)) % 2 ^ 64 ≡ top + 32 * i = to_store (b.regs 8) (top + 32 * i) 0 h.r8 sm (omega arith) ∙ (let z : top + 32 * i + 0 ≡ top + 32 * i = omega arith in z) in
      let s8 = to_store (b.regs 8) (top + 32 * i) 8 h.r8 sm (omega arith) in
      let s16 = to_store (b.regs 8) (top + 32 * i) 16 h.r8 sm (omega arith) in
      let s24 = to_store (b.regs 8) (top + 32 * i) 24 h.r8 sm (omega arith) in
      let w0 : CanWrite I (top + 32 * i) 8 = (omega arith, omega arith) in
      let w8 : CanWrite I (top + 32 * i + 8) 8 = (omega arith, omega arith) in
      let w16 : CanWrite I (top + 32 * i + 16) 8 = (omega arith, omega arith) in
      let w24 : CanWrite I (top + 32 * i + 24) 8 = (omega arith, omega arith) in
      let g0 : b.regs 8 ≤ top + 32 * i = let r = h.r8 in omega arith in
      let g8 : b.regs 8 ≤ top + 32 * i + 8 = omega arith in
      let g16 : b.regs 8 ≤ top + 32 * i + 16 = omega arith in
      let g24 : b.regs 8 ≤ top + 32 * i + 24 = omega arith in
      let m8 : (top + 32 * i + 8) % 8 ≡ 0 = omega arith in
      let m16 : (top + 32 * i + 16) % 8 ≡ 0 = omega arith in
      let m24 : (top + 32 * i + 24) % 8 ≡ 0 = omega arith in
      let sk : suc k ≤ many = omega arith in
      let z1 : 0 < suc k = omega arith in
      let fe : f (suc k) ≡ f (many - i) = ap f (let z : suc k ≡ many - i = omega arith in z) in
      let ge : g (suc k) ≡ g (many - i) = ap g (let z : suc k ≡ many - i = omega arith in z) in
      let ha = fields_high xa f first te in
      let hb = fields_high xb g second te in
      let la5 : (b.regs 5 + wrapped (pos 0)) % 2 ^ 64 ≡ xa + 8 * suc k = let r = h.r5 in omega arith in
      let lb6 : (b.regs 6 + wrapped (pos 0)) % 2 ^ 64 ≡ xb + 8 * suc k = let r = h.r6 in omega arith in
      let k5 : IsKnown (b.regs 5) = let r = h.r5 in omega arith in
      let k6 : IsKnown (b.regs 6) = let r = h.r6 in omega arith in
      let am : (xa + 8 * suc k) % 8 ≡ 0 = let r = first.aligned in omega arith in
      let bm : (xb + 8 * suc k) % 8 ≡ 0 = let r = second.aligned in omega arith in
      let m1 = with_bytes b.byte (top + 32 * i) (to_le_bytes w64 pair_header) in
      let m2 = with_bytes m1 (top + 32 * i + 8) (to_le_bytes w64 (f (suc k))) in
      let fa : WordIs m1 (xa + 8 * suc k) (f (suc k)) = word_same a0.byte m1 (xa + 8 * suc k) (f (suc k)) (λ j l. let lo = fields_low xa (suc k) f first z1 sk j l in bytes_out b.byte (top + 32 * i) (to_le_bytes w64 pair_header) (xa + 8 * suc k + j) (inl (under_new (xa + 8 * suc k + j) i lo)) ∙ h.low (xa + 8 * suc k + j) lo) (first.is (suc k) z1 sk) in
      let ga : WordIs m2 (xb + 8 * suc k) (g (suc k)) = word_same a0.byte m2 (xb + 8 * suc k) (g (suc k)) (λ j l. let lo = fields_low xb (suc k) g second z1 sk j l in let un = under_new (xb + 8 * suc k + j) i lo in bytes_out m1 (top + 32 * i + 8) (to_le_bytes w64 (f (suc k))) (xb + 8 * suc k + j) (inl (omega arith)) ∙ bytes_out b.byte (top + 32 * i) (to_le_bytes w64 pair_header) (xb + 8 * suc k + j) (inl un) ∙ h.low (xb + 8 * suc k + j) lo) (second.is (suc k) z1 sk) in
      let ra = fields_read xa (suc k) f first z1 sk te in
      let rb = fields_read xb (suc k) g second z1 sk te in
      let v1 : (b.regs 0 + 3) % 2 ^ 64 ≡ 3 = let r = h.zero_reg in omega arith in
      let v9 : (b.regs 8 + 0) % 2 ^ 64 ≡ top + 32 * i = let r = h.r8 in omega arith in
      let lit3 : IsKnown 3 = omega arith in
      let lit4 : IsKnown 12884901888 = omega arith in
      let lit5 : IsKnown pair_header = omega arith in
      let cl : (j n : ℕ) → n ≡ p + 5 + j → j < 15 → Q n = λ j n q l. clear n (omega arith) (omega arith) in
      alu_then (ins Addi 31 0 0 (pos 3)) 3 st.0 (cl 0 b.at (omega arith) (omega arith)) k0 k0 (ap (λ x. Some x) v1) (omega arith) (omega arith)
      (alu_then (ins Slli 31 31 0 (pos 32)) 12884901888 st.1.0 (cl 1 (suc b.at) (omega arith) (omega arith)) lit3 k0 (ap (λ x. Some x) shift3) (omega arith) (omega arith)
      (alu_then (ins Addi 31 31 0 (pos 7)) pair_header st.1.1.0 (cl 2 (suc (suc b.at)) (omega arith) (omega arith)) lit4 k0 refl (omega arith) (omega arith)
      (store_then (ins Sd 0 8 31 (pos 0)) w64 (top + 32 * i) (to_le_bytes w64 pair_header) st.1.1.1.0 (cl 3 (suc (suc (suc b.at))) (omega arith) (omega arith)) k8 lit5 refl s0 Tm w0 refl (inl g0)
      (load_then (ins Ld 31 5 0 (pos 0)) w64 (xa + 8 * suc k) (f (suc k)) st.1.1.1.1.0 (cl 4 (suc (suc (suc (suc b.at)))) (omega arith) (omega arith)) k5 refl la5 am ra fa.known fa.is (omega arith) (omega arith)
      (store_then (ins Sd 0 8 31 (pos 8)) w64 (top + 32 * i + 8) (to_le_bytes w64 (f (suc k))) st.1.1.1.1.1.0 (cl 5 (suc (suc (suc (suc (suc b.at))))) (omega arith) (omega arith)) k8 (first.small (suc k)) refl s8 m8 w8 refl (inl g8)
      (load_then (ins Ld 31 6 0 (pos 0)) w64 (xb + 8 * suc k) (g (suc k)) st.1.1.1.1.1.1.0 (cl 6 (suc (suc (suc (suc (suc (suc b.at)))))) (omega arith) (omega arith)) k6 refl lb6 bm rb ga.known ga.is (omega arith) (omega arith)
      (store_then (ins Sd 0 8 31 (pos 16)) w64 (top + 32 * i + 16) (to_le_bytes w64 (g (suc k))) st.1.1.1.1.1.1.1.0 (cl 7 (suc (suc (suc (suc (suc (suc (suc b.at))))))) (omega arith) (omega arith)) k8 (second.small (suc k)) refl s16 m16 w16 refl (inl g16)
      (store_then (ins Sd 0 8 11 (pos 24)) w64 (top + 32 * i + 24) (to_le_bytes w64 (list_at i)) st.1.1.1.1.1.1.1.1.0 (cl 8 (suc (suc (suc (suc (suc (suc (suc (suc b.at)))))))) (omega arith) (omega arith)) k8 k11 refl s24 m24 w24 (ap (to_le_bytes w64) h.r11) (inl g24)
      (alu_then (ins Addi 11 8 0 (pos 0)) (top + 32 * i) st.1.1.1.1.1.1.1.1.1.0 (cl 9 (suc (suc (suc (suc (suc (suc (suc (suc (suc b.at))))))))) (omega arith) (omega arith)) k8 k0 (ap (λ x. Some x) v9) (omega arith) (omega arith)
      (finish (record {
        at_is = ten_on b.at at;
        zero_reg = h.zero_reg;
        r5 = h.r5;
        r6 = h.r6;
        r7 = h.r7;
        r8 = h.r8;
        r9 = h.r9;
        r11 = refl;
        room = ro;
        pair = subst (λ u. PairAt (four_words b.byte (top + 32 * i) pair_header (f (suc k)) (g (suc k)) (list_at i)) (top + 32 * i) u (g (many - i)) (list_at i)) fe (subst (λ v. PairAt (four_words b.byte (top + 32 * i) pair_header (f (suc k)) (g (suc k)) (list_at i)) (top + 32 * i) (f (suc k)) v (list_at i)) ge (pair_written b.byte (top + 32 * i) (f (suc k)) (g (suc k)) (list_at i) (first.small (suc k)) (second.small (suc k)) ln));
        pairs = λ j l. pair_same b.byte (four_words b.byte (top + 32 * i) pair_header (f (suc k)) (g (suc k)) (list_at i)) (top + 32 * j) (f (many - j)) (g (many - j)) (list_at j) (λ x q r. four_below b.byte (top + 32 * i) pair_header (f (suc k)) (g (suc k)) (list_at i) x (pair_under j i x l r)) (h.pairs j l);
        low = λ x l. four_below b.byte (top + 32 * i) pair_header (f (suc k)) (g (suc k)) (list_at i) x (under_new x i l) ∙ h.low x l;
        same = λ r n5 n6 n7 n8 n11 n31. words_same b.regs 3 12884901888 pair_header (f (suc k)) (g (suc k)) (top + 32 * i) r n11 n31 ∙ h.same r n5 n6 n7 n8 n11 n31;
        outside = record { input = h.outside.input; out = h.outside.out; err = h.outside.err; cuts = h.outside.cuts };
      })))))))))))
    where
      ten_on : (n : ℕ) → n ≡ p + 5 → suc (suc (suc (suc (suc (suc (suc (suc (suc (suc n))))))))) ≡ p + 15
      ten_on n e = omega arith

      top_small : top + 32 * i + 32 ≤ end_at I → top + 32 * i + 32 < 2 ^ 62
      top_small l = let n = near.near in omega arith

      pair_under : (j i x : ℕ) → j < i → x < top + 32 * j + 32 → x < top + 32 * i
      pair_under j i x l q = omega arith

  -- x8 has moved: on to the field before, or out
  after_growth : (i k : ℕ) (c : Fine) → i + suc k ≡ many → Worded i k c → Trips I Q (λ b. ((k ≡ 0) × Pushing (suc i) 0 (p + 20) b) ⊎ ((0 < k) × Pushing (suc i) k p b)) 4 (put 8 (top + 32 * suc i) c)
  after_growth i k c e h =
      let at = h.at_is in
      let st = stands_at I.code (p + 16) (suc c.at) q_next (omega arith) code.next in
      let nr = near.near in
      let ro = h.room in
      let te : top ≤ end_at I = omega arith in
      let ha = fields_high xa f first te in
      let hb = fields_high xb g second te in
      let k0 = zero_known (c.regs 0) h.zero_reg in
      let v5 = down (c.regs 5) xa k h.r5 (omega arith) in
      let v6 = down (c.regs 6) xb k h.r6 (omega arith) in
      let v7 = down (c.regs 7) 0 k (h.r7 ∙ (let z : 8 * suc k ≡ 0 + 8 * suc k = omega arith in z)) (omega arith) ∙ (let z : 0 + 8 * k ≡ 8 * k = omega arith in z) in
      let k5 : IsKnown (c.regs 5) = let r = h.r5 in omega arith in
      let k6 : IsKnown (c.regs 6) = let r = h.r6 in omega arith in
      let k7 : IsKnown (c.regs 7) = let r = h.r7 in omega arith in
      let kk : IsKnown (8 * k) = omega arith in
      let cl : (j n : ℕ) → n ≡ p + 16 + j → j < 4 → Q n = λ j n q l. clear n (omega arith) (omega arith) in
      alu_then (ins Addi 5 5 0 (negsuc 7)) (xa + 8 * k) st.0 (cl 0 (suc c.at) (omega arith) (omega arith)) k5 k0 (ap (λ x. Some x) v5) (omega arith) (omega arith)
      (alu_then (ins Addi 6 6 0 (negsuc 7)) (xb + 8 * k) st.1.0 (cl 1 (suc (suc c.at)) (omega arith) (omega arith)) k6 k0 (ap (λ x. Some x) v6) (omega arith) (omega arith)
      (alu_then (ins Addi 7 7 0 (negsuc 7)) (8 * k) st.1.1.0 (cl 2 (suc (suc (suc c.at))) (omega arith) (omega arith)) k7 k0 (ap (λ x. Some x) v7) (omega arith) (omega arith)
      (⊎_elim
      (λ (l : 0 < k). takes_then (ins Bne 0 7 0 (negsuc 75)) p st.1.1.1.0 (cl 3 (suc (suc (suc (suc c.at)))) (omega arith) (omega arith)) kk k0 (ap (λ t. Some t) (test_more k (c.regs 0) l h.zero_reg)) (back c.at at pc_low (omega arith)) (finish (inr (l, next p refl))))
      (λ (l : k ≤ 0). let z : k ≡ 0 = omega arith in falls_then (ins Bne 0 7 0 (negsuc 75)) st.1.1.1.0 (cl 3 (suc (suc (suc (suc c.at)))) (omega arith) (omega arith)) kk k0 (ap (λ t. Some t) (test_out k (c.regs 0) z h.zero_reg)) (finish (inl (z, subst (λ j. Pushing (suc i) j (p + 20) (go (suc (suc (suc (suc (suc c.at))))) (put 7 (8 * k) (put 6 (xb + 8 * k) (put 5 (xa + 8 * k) (put 8 (top + 32 * suc i) c)))))) z (next (suc (suc (suc (suc (suc c.at))))) (omega arith))))))
      (cases_lt 0 k))))
    where
      down : (v x k : ℕ) → v ≡ x + 8 * suc k → x + 8 * suc k < 2 ^ 62 → (v + wrapped (negsuc 7)) % 2 ^ 64 ≡ x + 8 * k
      down v x k e l = omega arith

      back : (n : ℕ) → n ≡ p + 15 → base + 4 * (p + 20) ≤ I.entries.arena - 8192 → I.entries.arena < 2147545088 → (base + 4 * suc (suc (suc (suc n))) + wrapped (negsuc 75)) % 2 ^ 64 ≡ base + 4 * p
      back n e l h = omega arith

      test_more : (k z : ℕ) → 0 < k → z ≡ 0 → not (8 * k == z) ≡ true
      test_more k z l e = grind (arith, nat_tests)

      test_out : (k z : ℕ) → k ≡ 0 → z ≡ 0 → not (8 * k == z) ≡ false
      test_out k z l e = grind (arith, nat_tests)

      next_same : (v : ℕ → ℕ) (u w x y r : ℕ) → r ≢ 5 → r ≢ 6 → r ≢ 7 → r ≢ 8 → with_value (with_value (with_value (with_value v 8 u) 5 w) 6 x) 7 y r ≡ v r
      next_same v u w x y r n5 n6 n7 n8 = with_other (with_value (with_value (with_value v 8 u) 5 w) 6 x) 7 y r n7 ∙ with_other (with_value (with_value v 8 u) 5 w) 6 x r n6 ∙ with_other (with_value v 8 u) 5 w r n5 ∙ with_other v 8 u r n8

      next : {t : ℕ} (n : ℕ) → n ≡ t → Pushing (suc i) k t (go n (put 7 (8 * k) (put 6 (xb + 8 * k) (put 5 (xa + 8 * k) (put 8 (top + 32 * suc i) c)))))
      next n q = record {
        at_is = q;
        zero_reg = h.zero_reg;
        r5 = refl;
        r6 = refl;
        r7 = refl;
        r8 = refl;
        r9 = h.r9;
        r11 = h.r11;
        room = let r = h.room in omega arith;
        pairs = λ j l. ⊎_elim (λ (u : j < i). h.pairs j u) (λ (u : i ≤ j). let z : i ≡ j = omega arith in subst (λ j. PairAt c.byte (top + 32 * j) (f (many - j)) (g (many - j)) (list_at j)) z h.pair) (cases_lt j i);
        low = h.low;
        same = λ r n5 n6 n7 n8 n11 n31. next_same c.regs (top + 32 * suc i) (xa + 8 * k) (xb + 8 * k) (8 * k) r n5 n6 n7 n8 ∙ h.same r n5 n6 n7 n8 n11 n31;
        outside = record { input = h.outside.input; out = h.outside.out; err = h.outside.err; cuts = h.outside.cuts };
      }

  -- one field, and then what follows
  one_field : (k i : ℕ) (a : Fine) → i + suc k ≡ many → Pushing i (suc k) p a → ((b : Fine) → 0 < k → Pushing (suc i) k p b → Routes I Q Pushed (20 * k) b) → Routes I Q Pushed (20 * suc k) a
  one_field k i a e h again =
      route_within (5 + (10 + suc (4 + 20 * k))) (20 * suc k) (omega arith)
      (trip_first 5 (10 + suc (4 + 20 * k)) (checked i (suc k) a h) (λ b t c. ⊎_elim (λ (y : Pushing i (suc k) (p + 5) b × (top + 32 * i + 32 ≤ end_at I)). trip_first 10 (suc (4 + 20 * k)) (words_put i k b e y.0 y.1) (λ c t w. grown c w)) (λ (z : PairFull b). arrive (finish (inr z))) c))
    where
      on : (b : Fine) → ((k ≡ 0) × Pushing (suc i) 0 (p + 20) b) ⊎ ((0 < k) × Pushing (suc i) k p b) → Routes I Q Pushed (20 * k) b
      on b d = ⊎_elim
          (λ (y : (k ≡ 0) × Pushing (suc i) 0 (p + 20) b). let z = y.0 in arrive (finish (inl (subst (λ j. Pushing j 0 (p + 20) b) (let q : suc i ≡ many = omega arith in q) y.1))))
          (λ (y : (0 < k) × Pushing (suc i) k p b). again b y.0 y.1)
          d

      grown : (c : Fine) → Worded i k c → Routes I Q Pushed (suc (4 + 20 * k)) c
      grown c w =
          let at = w.at_is in
          let st = stands_at I.code (p + 5) (p + 5) q_words refl code.words in
          let e15 : suc (suc (suc (suc (suc (suc (suc (suc (suc (suc (p + 5)))))))))) ≡ c.at = omega arith in
          let r8 = w.r8 in
          let nr = near.near in
          let ro = w.room in
          let k8 : IsKnown (c.regs 8) = omega arith in
          let v8 : (c.regs 8 + 32) % 2 ^ 64 ≡ top + 32 * suc i = omega arith in
          let more : top + 32 * suc i ≡ c.regs 8 + 32 = omega arith in
          let made : Grows I c (put 8 (top + 32 * suc i) c) = record { words = 4; x0 = refl; x8 = more; room = omega arith; low = λ x l. refl; known = λ x l h. pair_known c.byte (c.regs 8) (f (many - i)) (g (many - i)) (list_at i) (subst (λ y. PairAt c.byte y (f (many - i)) (g (many - i)) (list_at i)) (sym r8) w.pair) x l (omega arith) } in
          grow_first (4 + 20 * k) (ins Addi 8 8 0 (pos 32)) (put 8 (top + 32 * suc i) c) (subst (λ n. slice_get I.code n ≡ Some (ins Addi 8 8 0 (pos 32))) e15 st.1.1.1.1.1.1.1.1.1.1.0) (clear c.at (omega arith) (omega arith)) (alu (ins Addi 8 8 0 (pos 32)) c (top + 32 * suc i) k8 (zero_known (c.regs 0) w.zero_reg) (value_is Addi _ _ _ _ (top + 32 * suc i) (ap (λ x. Some x) v8)) (omega arith)) made
          (trip_first 4 (20 * k) (after_growth i k c e w) (λ b t d. on b d))

  -- all pairs are put, the first field's in front; or the arena is full. At most 20 instructions a field.
  pub pairs_put : (k i : ℕ) (a : Fine) → i + suc k ≡ many → Pushing i (suc k) p a → Routes I Q Pushed (20 * suc k) a
  pairs_put zero i a e h = one_field zero i a e h (λ b l q. absurd (omega arith))
  pairs_put (suc k) i a e h = one_field (suc k) i a e h (λ b l q. pairs_put k (suc i) b (omega arith) q)
