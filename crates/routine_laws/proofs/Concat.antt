-- The routine that joins two strings does so.
use Rattle.std.proofs.Common.{◌≡◌, ◌≢◌, ℕ, zero, suc, ◌+◌, ◌-◌, ◌*◌, ◌/◌, ◌%◌, ◌^◌, ◌<◌, ◌≤◌, pos, negsuc, List, ◌++◌, length, get_or, Some, true, false, not, arith, refl, sym, ap, ◌∙◌, subst, ⊎_elim, ◌⊎◌, inl, inr, length-append}
use Rattle.std.specs.Prelude.{slice_get, nat_lt}
use Rattle.std.specs.Int.{w32, w64, from_le_bytes, to_le_bytes}
use Rattle.std.proofs.lemmas.Bool.{cases_lt}
use Rattle.std.proofs.lemmas.Bool.Decides.{nat_tests}
use Rattle.std.proofs.lemmas.List.{get_or_append_left, get_or-append_right, get_or_past}
use Rattle.rv_isa.specs.declared.table.Op.TheVariants.{Addi, Slli, Srli, Add, Sub, Bgeu, Lwu, Sd}
use Rattle.rv_isa.specs.Word.{ins}
use Rattle.rv_machine.specs.Step.{wrapped}
use Rattle.simulation.proofs.Heaps.{with_other, eq_cases}
use Rattle.rv_run.specs.Seen.{listed_from}
use Rattle.rv_acts.specs.Emitted.{Emitted, base, IsLaid, CanRead, CanWrite}
use Rattle.rv_acts.specs.Fine.{IsKnown, AllKnown, with_value, with_bytes, Fine}
use Rattle.rv_acts.specs.Act.{put, alu}
use Rattle.rv_acts.specs.Trip.{IsLow, Steady, WordIs}
use Rattle.rv_acts.proofs.Bytes.{bytes_in, bytes_out}
use Rattle.rv_acts.proofs.Trips.{trip_steady, steady_refl, steady_then}
use Rattle.rv_acts.proofs.Arena.{word_same}
use Rattle.rv_pieces.specs.Stand.{Stands}
use Rattle.rv_pieces.specs.Pair.{Reaches}
use Rattle.rv_pieces.specs.Route.{Trips}
use Rattle.rv_pieces.proofs.Standing.{zero_known, stands_left, stands_right, stands_at}
use Rattle.rv_pieces.proofs.Words.{written}
use Rattle.rv_pieces.proofs.Then.{value_is, finish, then_on, to_goal, alu_then, load_then, store_then, falls_then, takes_then, leaps_then}
use Rattle.rv_pieces.proofs.Saving.{save_then, restore_then, la_then, jump_then}
use Rattle.routine_laws.specs.Places.{save_at, end_at, IsNear}
use Rattle.routine_laws.specs.Strings.{string_words, StringAt, StringIn, SameOutside}
use Rattle.routine_laws.proofs.Strings.{laid_low, half_word}
use Rattle.routine_laws.proofs.CopyBytes.{Apart, Source, Room, outside_then, Copying, bytes_copied}
use Rattle.routine_laws.specs.Copy.{bytes_code, words_code}
use Rattle.routine_laws.specs.Concat.{c_save, c_sizes, c_room, c_header, c_done, c_load, concat_code, Strung, concat_most}
use Rattle.routine_laws.proofs.CopyWords.{words_copied}
use Rattle.routine_laws.proofs.Makes.{Makes}
use Rattle.routine_laws.proofs.Keeping.{Saved, saved_same, three_saved, three_others}

-- 58 instructions from place p on; a full arena is told at a place full
pub record ConcatCode (I : Emitted) (p full : ℕ) : Type 0 where
  pub save : Stands I.code p (c_save I p)
  pub sizes : Stands I.code (p + 7) c_sizes
  pub room : Stands I.code (p + 10) (c_room (p + 10) full)
  pub header : Stands I.code (p + 20) c_header
  pub words : Stands I.code (p + 26) words_code
  pub first : Stands I.code (p + 34) (bytes_code 5 9 28 30)
  pub second : Stands I.code (p + 41) (bytes_code 6 9 29 30)
  pub done : Stands I.code (p + 48) c_done
  pub load : Stands I.code (p + 50) (c_load I (p + 50))

module _ (I : Emitted) (laid : IsLaid I) (near : IsNear I) (Q : ℕ → Type 0) (p full : ℕ) (code : ConcatCode I p full) (clear : (k : ℕ) → p ≤ k → k < p + 58 → Q k) (in_text : p + 58 ≤ length I.code) where
  pc_low : base + 4 * (p + 58) ≤ I.entries.arena - 8192
  pc_low = let a = laid.text in let b = laid.above in omega arith

  reach_save : (k : ℕ) → k < 58 → Reaches (p + k) (save_at I)
  reach_save k l = let a = pc_low in let b = near.near in let c = near.above in record { from = omega arith; to = omega arith; back = omega arith; on = omega arith }

  reach_end : (k : ℕ) → k < 58 → Reaches (p + k) (end_at I)
  reach_end k l = let a = pc_low in let b = near.near in let c = near.above in record { from = omega arith; to = omega arith; back = omega arith; on = omega arith }

  save_write : (k : ℕ) → k ≤ 16 → CanWrite I (save_at I + k) 8
  save_write k l = let c = near.above in (omega arith, omega arith)

  save_mod : save_at I % 8 ≡ 0
  save_mod = let c = near.above in let z = laid.aligned in omega arith

  -- ---- registers are saved

  pub record Kept (a0 b : Fine) (n : ℕ) : Type 0 where
    pub at : b.at ≡ p + n
    pub x9 : b.regs 9 ≡ end_at I
    pub same : (r : ℕ) → r ≢ 9 → b.regs r ≡ a0.regs r
    pub saved : Saved I a0 b.byte
    pub others : (x : ℕ) → (x < save_at I) ⊎ (save_at I + 24 ≤ x) → b.byte x ≡ a0.byte x
    pub outside : SameOutside a0 b

  save_addr : (k : ℕ) → k < 2048 → (save_at I + wrapped (pos k)) % 2 ^ 64 ≡ save_at I + k
  save_addr k l = let a = near.near in omega arith

  save_known : IsKnown (save_at I)
  save_known = let a = near.near in omega arith

  same3 : (g : ℕ → ℕ) (u t v s r : ℕ) → r ≢ 9 → with_value (with_value (with_value (with_value g 9 u) 9 t) 9 v) 9 s r ≡ g r
  same3 g u t v s r n = with_other (with_value (with_value (with_value g 9 u) 9 t) 9 v) 9 s r n ∙ with_other (with_value (with_value g 9 u) 9 t) 9 v r n ∙ with_other (with_value g 9 u) 9 t r n ∙ with_other g 9 u r n

  pub kept : (a0 : Fine) → a0.at ≡ p → a0.regs 0 ≡ 0 → Trips I Q (λ b. Kept a0 b 7) 7 a0
  kept a0 at z =
      let st = stands_at I.code p a0.at (c_save I p) (sym at) code.save in
      let nr = near.above in
      let zero_p : p + 0 ≡ p = omega arith in
      let r0 = subst (λ q. Reaches q (save_at I)) zero_p (reach_save 0 (omega arith)) in
      let e0 : save_at I + 0 ≡ save_at I = omega arith in
      la_then 9 p (save_at I) at (omega arith) (omega arith) z r0 st.0 st.1.0 (clear a0.at (omega arith) (omega arith)) (clear (suc a0.at) (omega arith) (omega arith)) (λ u.
      save_then 9 28 (save_at I) 0 st.1.1.0 (clear _ (omega arith) (omega arith)) save_known (save_addr 0 (omega arith) ∙ e0) save_mod (subst (λ x. CanWrite I x 8) e0 (save_write 0 (omega arith))) (inr (omega arith)) (λ n1 l1 s1.
      save_then 9 29 (save_at I + 8) 8 st.1.1.1.0 (clear _ (omega arith) (omega arith)) save_known (save_addr 8 (omega arith)) (let m = save_mod in omega arith) (save_write 8 (omega arith)) (inr (omega arith)) (λ n2 l2 s2.
      save_then 9 30 (save_at I + 16) 16 st.1.1.1.1.0 (clear _ (omega arith) (omega arith)) save_known (save_addr 16 (omega arith)) (let m = save_mod in omega arith) (save_write 16 (omega arith)) (inr (omega arith)) (λ n3 l3 s3.
      la_then 9 (p + 5) (end_at I) (omega arith) (omega arith) (omega arith) z (reach_end 5 (omega arith)) st.1.1.1.1.1.0 st.1.1.1.1.1.1.0 (clear _ (omega arith) (omega arith)) (clear _ (omega arith) (omega arith)) (λ v.
      finish (record {
        at = omega arith;
        x9 = refl;
        same = λ r n. same3 a0.regs u (save_at I) v (end_at I) r n;
        saved = let t = three_saved a0.byte (save_at I) (a0.regs 28) (a0.regs 29) (a0.regs 30) n1 n2 n3 l1 l2 l3 (s1 a0.byte) (s2 (with_bytes a0.byte (save_at I) n1)) (s3 (with_bytes (with_bytes a0.byte (save_at I) n1) (save_at I + 8) n2)) in record { r28 = t.0; r29 = t.1; r30 = t.2 };
        others = three_others a0.byte (save_at I) n1 n2 n3 l1 l2 l3;
        outside = record { input = refl; out = refl; err = refl; cuts = refl };
      }))))))

  -- ---- how far it is

  pub record Stage (top : ℕ) (a0 b : Fine) (n : ℕ) : Type 0 where
    pub at : b.at ≡ p + n
    pub same : (r : ℕ) → r ≢ 5 → r ≢ 6 → r ≢ 7 → r ≢ 9 → r ≢ 28 → r ≢ 29 → r ≢ 30 → b.regs r ≡ a0.regs r
    pub saved : Saved I a0 b.byte
    pub others : (x : ℕ) → x < top → (x < save_at I) ⊎ (save_at I + 24 ≤ x) → b.byte x ≡ a0.byte x
    pub outside : SameOutside a0 b

  module _ (us bs : List ℕ) (xa xb top ret : ℕ) (a0 : Fine) (s : Strung I us bs xa xb top ret p a0) where
    abbrev pub m1 : ℕ
    m1 = length us

    abbrev pub m2 : ℕ
    m2 = length bs

    abbrev pub new_top : ℕ
    new_top = top + 8 + 8 * string_words (length us + length bs)

    -- a string that was there is there
    string_keep : (x : ℕ) (cs : List ℕ) (b : Fine) → Steady I a0 b → StringIn I top a0.byte x cs → StringIn I top b.byte x cs
    string_keep x cs b st h = record {
      aligned = h.aligned;
      here = record {
        header = word_same a0.byte b.byte x _ (λ i l. st.low (x + i) (low_at i (omega arith))) h.here.header;
        bytes = λ j l. st.low (x + 8 + j) (subst (IsLow I (a0.regs 8)) (let z : x + (8 + j) ≡ x + 8 + j = omega arith in z) (low_at (8 + j) (omega arith))) ∙ h.here.bytes j l;
      };
      small = h.small;
      place = h.place;
    }
      where
        low_at : (k : ℕ) → k < 8 + 8 * string_words (length cs) → IsLow I (a0.regs 8) (x + k)
        low_at k l = ⊎_elim
            (λ (q : (I.place ≤ x) × (x + 8 + 8 * string_words (length cs) ≤ I.place + length I.literals)). let a = laid.above in let b = q.1 in inl (omega arith))
            (λ (q : (I.entries.arena ≤ x) × (x + 8 + 8 * string_words (length cs) ≤ top)). let e = s.x8 in let a = q.0 in let b = q.1 in inr (omega arith, omega arith))
            h.place

    string_reads : (x : ℕ) (cs : List ℕ) (m : ℕ → ℕ) → StringIn I top m x cs → (k n : ℕ) → k + n ≤ 8 + 8 * string_words (length cs) → CanRead I (x + k) n
    string_reads x cs m h k n l = ⊎_elim
        (λ (q : (I.place ≤ x) × (x + 8 + 8 * string_words (length cs) ≤ I.place + length I.literals)). let b = q.0 in let c = q.1 in inl (omega arith, omega arith))
        (λ (q : (I.entries.arena ≤ x) × (x + 8 + 8 * string_words (length cs) ≤ top)). let e = s.high in let a = q.0 in let b = q.1 in inr (omega arith, omega arith))
        h.place

    string_high : (x : ℕ) (cs : List ℕ) (m : ℕ → ℕ) → StringIn I top m x cs → x + 8 + 8 * string_words (length cs) < 2147545088
    string_high x cs m h = ⊎_elim
        (λ (q : (I.place ≤ x) × (x + 8 + 8 * string_words (length cs) ≤ I.place + length I.literals)). let a = laid.above in let n = near.near in let c = q.1 in omega arith)
        (λ (q : (I.entries.arena ≤ x) × (x + 8 + 8 * string_words (length cs) ≤ top)). let e = s.high in let n = near.near in let b = q.1 in omega arith)
        h.place

    words_enough : (n : ℕ) → n ≤ 8 * string_words n
    words_enough n = omega arith

    string_short : (x : ℕ) (cs : List ℕ) (m : ℕ → ℕ) → StringIn I top m x cs → length cs < 2147545088
    string_short x cs m h = let a = string_high x cs m h in let b = words_enough (length cs) in omega arith

    -- the length of a string is read
    length_at : (x : ℕ) (cs : List ℕ) (b : Fine) → StringIn I top b.byte x cs → AllKnown b.byte (x + 4) 4 × (from_le_bytes w32 (listed_from b.byte (x + 4) 4) ≡ length cs)
    length_at x cs b h = let l = string_short x cs b.byte h in half_word b.byte x 2 (length cs) h.here.header (omega arith) (omega arith)

    pub record Sized (b : Fine) : Type 0 where
      pub stage : Stage top a0 b 10
      pub r5 : b.regs 5 ≡ xa
      pub r6 : b.regs 6 ≡ xb
      pub r9 : b.regs 9 ≡ end_at I
      pub r28 : b.regs 28 ≡ length us
      pub r29 : b.regs 29 ≡ length us + length bs

    pub sized : (b : Fine) → Steady I a0 b → Kept a0 b 7 → Trips I Q Sized 3 b
    sized b st k =
        let ka = string_keep xa us b st s.first in
        let kb = string_keep xb bs b st s.second in
        let sa = string_high xa us b.byte ka in
        let sb = string_high xb bs b.byte kb in
        let la' = string_short xa us b.byte ka in
        let lb' = string_short xb bs b.byte kb in
        let qa = length_at xa us b ka in
        let qb = length_at xb bs b kb in
        let r5 : b.regs 5 ≡ xa = k.same 5 (omega arith) ∙ s.x5 in
        let r6 : b.regs 6 ≡ xb = k.same 6 (omega arith) ∙ s.x6 in
        let aa = s.first.aligned in
        let ab = s.second.aligned in
        let at = k.at in
        let c = stands_at I.code (p + 7) b.at c_sizes (sym k.at) code.sizes in
        load_then (ins Lwu 28 5 0 (pos 4)) w32 (xa + 4) (length us) c.0 (clear b.at (omega arith) (omega arith)) (omega arith) refl (omega arith) (omega arith) (string_reads xa us b.byte ka 4 4 (omega arith)) qa.0 qa.1 (omega arith) (omega arith)
        (load_then (ins Lwu 29 6 0 (pos 4)) w32 (xb + 4) (length bs) c.1.0 (clear _ (omega arith) (omega arith)) (omega arith) refl (omega arith) (omega arith) (string_reads xb bs b.byte kb 4 4 (omega arith)) qb.0 qb.1 (omega arith) (omega arith)
        (alu_then (ins Add 29 28 29 (pos 0)) (length us + length bs) c.1.1.0 (clear _ (omega arith) (omega arith)) (omega arith) (omega arith) (ap (λ x. Some x) (omega arith)) (omega arith) (omega arith)
        (finish (record {
          stage = record {
            at = omega arith;
            same = λ r n5 n6 n7 n9 n28 n29 n30. sized_same b.regs (length us) (length bs) (length us + length bs) r n28 n29 ∙ k.same r n9;
            saved = k.saved;
            others = λ x l q. k.others x q;
            outside = record { input = k.outside.input; out = k.outside.out; err = k.outside.err; cuts = k.outside.cuts };
          };
          r5 = r5;
          r6 = r6;
          r9 = k.x9;
          r28 = refl;
          r29 = refl;
        }))))
      where
        sized_same : (g : ℕ → ℕ) (u v w r : ℕ) → r ≢ 28 → r ≢ 29 → with_value (with_value (with_value g 28 u) 29 v) 29 w r ≡ g r
        sized_same g u v w r n28 n29 = with_other (with_value (with_value g 28 u) 29 v) 29 w r n29 ∙ with_other (with_value g 28 u) 29 v r n29 ∙ with_other g 28 u r n28

    -- ---- there is room

    pub record Roomed (b : Fine) : Type 0 where
      pub stage : Stage top a0 b 20
      pub r5 : b.regs 5 ≡ xa
      pub r6 : b.regs 6 ≡ xb
      pub r7 : b.regs 7 ≡ new_top
      pub r28 : b.regs 28 ≡ length us
      pub r29 : b.regs 29 ≡ length us + length bs

    -- or there is none: the words of the block stand in x12
    pub record Full (b : Fine) : Type 0 where
      pub at : b.at ≡ full
      pub r12 : b.regs 12 ≡ 1 + string_words (length us + length bs)
      pub outside : SameOutside a0 b

    shifts : (n : ℕ) → n < 2 ^ 40 → n / 8 * 8 % 2 ^ 64 ≡ 8 * (n / 8)
    shifts n l = omega arith

    roomed_same : (g : ℕ → ℕ) (u v w x y r : ℕ) → r ≢ 7 → with_value (with_value (with_value (with_value (with_value g 7 u) 7 v) 7 w) 7 x) 7 y r ≡ g r
    roomed_same g u v w x y r n = with_other (with_value (with_value (with_value (with_value g 7 u) 7 v) 7 w) 7 x) 7 y r n ∙ with_other (with_value (with_value (with_value g 7 u) 7 v) 7 w) 7 x r n ∙ with_other (with_value (with_value g 7 u) 7 v) 7 w r n ∙ with_other (with_value g 7 u) 7 v r n ∙ with_other g 7 u r n

    -- x7 becomes what x8 will be
    module _ {Goal : Fine → Type 0} (most : ℕ) (b : Fine) (st : Steady I a0 b) (z : Sized b) (go_on : Trips I Q Goal most (put 7 new_top (put 7 (8 * string_words (length us + length bs) + 8) (put 7 (8 * string_words (length us + length bs)) (put 7 (string_words (length us + length bs)) (put 7 (length us + length bs + 7) b)))))) where
      pub add_up : Trips I Q Goal (suc (suc (suc (suc (suc most))))) b
      add_up =
          let at = z.stage.at in
          let c = stands_at I.code (p + 10) b.at (c_room (p + 10) full) (sym at) code.room in
          let la' = string_short xa us a0.byte s.first in
          let lb' = string_short xb bs a0.byte s.second in
          let n = length us + length bs in
          let r29 = z.r29 in
          let z0 : b.regs 0 ≡ 0 = st.x0 ∙ s.zero_reg in
          let x8 : b.regs 8 ≡ top = st.x8 ∙ s.x8 in
          let hi = s.high in
          let nr = near.near in
          let w = shifts (n + 7) (omega arith) in
          let k0 = zero_known (b.regs 0) z0 in
          let v1 : (b.regs 29 + 7) % 2 ^ 64 ≡ n + 7 = omega arith in
          let v4 : (8 * string_words n + 8) % 2 ^ 64 ≡ 8 * string_words n + 8 = omega arith in
          let v5 : (b.regs 8 + (8 * string_words n + 8)) % 2 ^ 64 ≡ new_top = omega arith in
          let kn : IsKnown (n + 7) = omega arith in
          let kw : IsKnown (string_words n) = omega arith in
          let kw8 : IsKnown (8 * string_words n) = omega arith in
          let kw9 : IsKnown (8 * string_words n + 8) = omega arith in
          let k8 : IsKnown (b.regs 8) = omega arith in
          let k29 : IsKnown (b.regs 29) = omega arith in
          alu_then (ins Addi 7 29 0 (pos 7)) (n + 7) c.0 (clear b.at (omega arith) (omega arith)) k29 k0 (ap (λ x. Some x) v1) (omega arith) (omega arith)
          (alu_then (ins Srli 7 7 0 (pos 3)) (string_words n) c.1.0 (clear _ (omega arith) (omega arith)) kn k0 refl (omega arith) (omega arith)
          (alu_then (ins Slli 7 7 0 (pos 3)) (8 * string_words n) c.1.1.0 (clear _ (omega arith) (omega arith)) kw k0 (ap (λ x. Some x) w) (omega arith) (omega arith)
          (alu_then (ins Addi 7 7 0 (pos 8)) (8 * string_words n + 8) c.1.1.1.0 (clear _ (omega arith) (omega arith)) kw8 k0 (ap (λ x. Some x) v4) (omega arith) (omega arith)
          (alu_then (ins Add 7 8 7 (pos 0)) new_top c.1.1.1.1.0 (clear _ (omega arith) (omega arith)) k8 kw9 (ap (λ x. Some x) v5) (omega arith) (omega arith)
          go_on))))

    test_room : (v w : ℕ) → w ≤ v → not (nat_lt v w) ≡ true
    test_room v w l = grind (arith, nat_tests)

    test_full : (v w : ℕ) → v < w → not (nat_lt v w) ≡ false
    test_full v w l = grind (arith, nat_tests)

    on_five : (n : ℕ) → n ≡ p + 10 → base + 4 * (p + 58) ≤ I.entries.arena - 8192 → I.entries.arena < 2147545088 → (base + 4 * suc (suc (suc (suc (suc n)))) + wrapped (pos 20)) % 2 ^ 64 ≡ base + 4 * (p + 20)
    on_five n e l h = omega arith

    pub roomed : (b : Fine) → Steady I a0 b → Sized b → new_top ≤ end_at I → Trips I Q Roomed 6 b
    roomed b st z l =
        let at = z.stage.at in
        let c = stands_at I.code (p + 10) b.at (c_room (p + 10) full) (sym at) code.room in
        let nr = near.near in
        let e9 = z.r9 in
        add_up 1 b st z
        (takes_then (ins Bgeu 0 9 7 (pos 20)) (p + 20) c.1.1.1.1.1.0 (clear _ (omega arith) (omega arith)) (omega arith) (omega arith) (ap (λ t. Some t) (test_room (b.regs 9) new_top (omega arith))) (on_five b.at at pc_low (omega arith))
        (finish (record {
          stage = record {
            at = refl;
            same = λ r n5 n6 n7 n9 n28 n29 n30. roomed_same b.regs (length us + length bs + 7) (string_words (length us + length bs)) (8 * string_words (length us + length bs)) (8 * string_words (length us + length bs) + 8) new_top r n7 ∙ z.stage.same r n5 n6 n7 n9 n28 n29 n30;
            saved = z.stage.saved;
            others = z.stage.others;
            outside = record { input = z.stage.outside.input; out = z.stage.outside.out; err = z.stage.outside.err; cuts = z.stage.outside.cuts };
          };
          r5 = z.r5;
          r6 = z.r6;
          r7 = refl;
          r28 = z.r28;
          r29 = z.r29;
        })))

    eighth : (t w : ℕ) → t + 8 + 8 * w < 2 ^ 63 → (t + 8 + 8 * w + (2 ^ 64 - t)) % 2 ^ 64 ≡ 8 + 8 * w
    eighth t w l = omega arith

    pub none_left : (b : Fine) → Steady I a0 b → Sized b → end_at I < new_top → full < length I.code → Trips I Q Full 10 b
    none_left b st z l fc =
        let at = z.stage.at in
        let c = stands_at I.code (p + 10) b.at (c_room (p + 10) full) (sym at) code.room in
        let nr = near.near in
        let e9 = z.r9 in
        let la' = string_short xa us a0.byte s.first in
        let lb' = string_short xb bs a0.byte s.second in
        let x8 : b.regs 8 ≡ top = st.x8 ∙ s.x8 in
        let hi = s.high in
        let top_small : top < 2 ^ 62 = omega arith in
        let sub : (new_top + (2 ^ 64 - b.regs 8)) % 2 ^ 64 ≡ 8 + 8 * string_words (length us + length bs) = ap (λ t. (new_top + (2 ^ 64 - t)) % 2 ^ 64) x8 ∙ eighth top (string_words (length us + length bs)) (omega arith) in
        add_up 5 b st z
        (falls_then (ins Bgeu 0 9 7 (pos 20)) c.1.1.1.1.1.0 (clear _ (omega arith) (omega arith)) (omega arith) (omega arith) (ap (λ t. Some t) (test_full (b.regs 9) new_top (omega arith)))
        (alu_then (ins Sub 12 7 8 (pos 0)) (8 + 8 * string_words (length us + length bs)) c.1.1.1.1.1.1.0 (clear _ (omega arith) (omega arith)) (omega arith) (omega arith) (ap (λ x. Some x) sub) (omega arith) (omega arith)
        (alu_then (ins Srli 12 12 0 (pos 3)) (1 + string_words (length us + length bs)) c.1.1.1.1.1.1.1.0 (clear _ (omega arith) (omega arith)) (omega arith) (zero_known (b.regs 0) (st.x0 ∙ s.zero_reg)) (ap (λ x. Some x) (eight_one (string_words (length us + length bs)))) (omega arith) (omega arith)
        (jump_then (p + 10 + 8) full (omega arith) (st.x0 ∙ s.zero_reg) (reach_full fc) c.1.1.1.1.1.1.1.1.0 c.1.1.1.1.1.1.1.1.1.0 (clear _ (omega arith) (omega arith)) (clear _ (omega arith) (omega arith)) (λ u.
        finish (record { at = refl; r12 = refl; outside = record { input = z.stage.outside.input; out = z.stage.outside.out; err = z.stage.outside.err; cuts = z.stage.outside.cuts } }))))))
      where
        eight_one : (w : ℕ) → (8 + 8 * w) / 8 ≡ 1 + w
        eight_one w = omega arith

        reach_full : full < length I.code → Reaches (p + 10 + 8) (base + 4 * full)
        reach_full fc = let a = pc_low in let b = near.near in let c = near.above in let t = laid.text in let v = laid.above in record { from = omega arith; to = omega arith; back = omega arith; on = omega arith }

    -- ---- the header is there, and zeros in the last word

    pub record Headed (b : Fine) : Type 0 where
      pub stage : Stage top a0 b 26
      pub r5 : b.regs 5 ≡ xa
      pub r6 : b.regs 6 ≡ xb
      pub r7 : b.regs 7 ≡ new_top
      pub r9 : b.regs 9 ≡ top
      pub r28 : b.regs 28 ≡ length us
      pub r29 : b.regs 29 ≡ length bs
      pub header : WordIs b.byte top (2 + 4294967296 * (length us + length bs))
      pub zeros : (j : ℕ) → length us + length bs ≤ j → j < 8 * string_words (length us + length bs) → b.byte (top + 8 + j) ≡ 0

    zero_bytes : (i : ℕ) → i < 8 → get_or (to_le_bytes w64 0) i 0 ≡ 0
    zero_bytes zero h = refl
    zero_bytes (suc zero) h = refl
    zero_bytes (suc (suc zero)) h = refl
    zero_bytes (suc (suc (suc zero))) h = refl
    zero_bytes (suc (suc (suc (suc zero)))) h = refl
    zero_bytes (suc (suc (suc (suc (suc zero))))) h = refl
    zero_bytes (suc (suc (suc (suc (suc (suc zero)))))) h = refl
    zero_bytes (suc (suc (suc (suc (suc (suc (suc zero))))))) h = refl
    zero_bytes (suc (suc (suc (suc (suc (suc (suc (suc i)))))))) h = absurd (omega arith)

    -- the last word is the header's, or behind it
    header_zeros : (m : ℕ → ℕ) (t n j : ℕ) (new : List ℕ) → length new ≡ 8 → n ≤ j → j < 8 * string_words n → with_bytes (with_bytes m (t + 8 * string_words n) (to_le_bytes w64 0)) t new (t + 8 + j) ≡ 0
    header_zeros m t n j new l h k =
        let w : 8 * string_words n ≤ n + 7 = omega arith in
        let i = 8 + j - 8 * string_words n in
        let li : i < 8 = omega arith in
        let at : t + 8 + j - (t + 8 * string_words n) ≡ i = omega arith in
        bytes_out (with_bytes m (t + 8 * string_words n) (to_le_bytes w64 0)) t new (t + 8 + j) (inr (omega arith))
        ∙ bytes_in m (t + 8 * string_words n) (to_le_bytes w64 0) (t + 8 + j) (omega arith) (omega arith)
        ∙ ap (λ k. get_or (to_le_bytes w64 0) k 0) at ∙ zero_bytes i li

    header_value : (n : ℕ) → n < 4294967296 → n * 2 ^ 32 % 2 ^ 64 ≡ 4294967296 * n
    header_value n l = omega arith

    header_more : (n : ℕ) → n < 4294967296 → (4294967296 * n + 2) % 2 ^ 64 ≡ 2 + 4294967296 * n
    header_more n l = omega arith

    header_fits : (n : ℕ) → n < 4294967296 → 2 + 4294967296 * n < 2 ^ 64
    header_fits n l = omega arith

    header_same : (g : ℕ → ℕ) (u v w x r : ℕ) → r ≢ 9 → r ≢ 29 → r ≢ 30 → with_value (with_value (with_value (with_value g 30 u) 30 v) 29 w) 9 x r ≡ g r
    header_same g u v w x r n9 n29 n30 = with_other (with_value (with_value (with_value g 30 u) 30 v) 29 w) 9 x r n9 ∙ with_other (with_value (with_value g 30 u) 30 v) 29 w r n29 ∙ with_other (with_value g 30 u) 30 v r n30 ∙ with_other g 30 u r n30

    sub_back : (v u n k : ℕ) → v ≡ n + k → u ≡ n → n + k < 2 ^ 62 → (v + (2 ^ 64 - u)) % 2 ^ 64 ≡ k
    sub_back v u n k e f l = omega arith

    last_word : (v t w : ℕ) → v ≡ t + 8 + 8 * w → v < 2 ^ 62 → (v + wrapped (negsuc 7)) % 2 ^ 64 ≡ t + 8 * w
    last_word v t w e l = omega arith

    pub headed : (b : Fine) → Steady I a0 b → Roomed b → new_top ≤ end_at I → Trips I Q Headed 6 b
    headed b st z l =
        let at = z.stage.at in
        let c = stands_at I.code (p + 20) b.at c_header (sym at) code.header in
        let n = length us + length bs in
        let nr = near.near in
        let x8 : b.regs 8 ≡ top = st.x8 ∙ s.x8 in
        let z0 : b.regs 0 ≡ 0 = st.x0 ∙ s.zero_reg in
        let lo = s.low in
        let al = s.aligned in
        let r7 = z.r7 in
        let enough = words_enough n in
        let n_small : n < 4294967296 = omega arith in
        let k0 = zero_known (b.regs 0) z0 in
        let k7 : IsKnown (b.regs 7) = omega arith in
        let k29 : IsKnown (b.regs 29) = let r = z.r29 in omega arith in
        let k28 : IsKnown (b.regs 28) = let r = z.r28 in omega arith in
        let k8 : IsKnown (b.regs 8) = omega arith in
        let at1 = last_word (b.regs 7) top (string_words n) r7 (omega arith) in
        let m1' : (top + 8 * string_words n) % 8 ≡ 0 = omega arith in
        let w1 : CanWrite I (top + 8 * string_words n) 8 = (omega arith, omega arith) in
        let ap1 : b.regs 8 ≤ top + 8 * string_words n = omega arith in
        let v2 : b.regs 29 * 2 ^ 32 % 2 ^ 64 ≡ 4294967296 * n = ap (λ k. k * 2 ^ 32 % 2 ^ 64) z.r29 ∙ header_value n n_small in
        let v3 = header_more n n_small in
        let f3 = header_fits n n_small in
        let k2 : IsKnown (4294967296 * n) = omega arith in
        let at4 : (b.regs 8 + wrapped (pos 0)) % 2 ^ 64 ≡ top = omega arith in
        let w4 : CanWrite I top 8 = (omega arith, omega arith) in
        let ap4 : b.regs 8 ≤ top = omega arith in
        let v5 = sub_back (b.regs 29) (b.regs 28) (length us) (length bs) z.r29 z.r28 (omega arith) in
        let v6 : (b.regs 8 + 0) % 2 ^ 64 ≡ top = omega arith in
        let new = to_le_bytes w64 (2 + 4294967296 * n) in
        store_then (ins Sd 0 7 0 (negsuc 7)) w64 (top + 8 * string_words n) (to_le_bytes w64 0) c.0 (clear b.at (omega arith) (omega arith)) k7 k0 refl at1 m1' w1 (ap (to_le_bytes w64) z0) (inl ap1)
        (alu_then (ins Slli 30 29 0 (pos 32)) (4294967296 * n) c.1.0 (clear (suc b.at) (omega arith) (omega arith)) k29 k0 (ap (λ x. Some x) v2) (omega arith) (omega arith)
        (alu_then (ins Addi 30 30 0 (pos 2)) (2 + 4294967296 * n) c.1.1.0 (clear (suc (suc b.at)) (omega arith) (omega arith)) k2 k0 (ap (λ x. Some x) v3) (omega arith) (omega arith)
        (store_then (ins Sd 0 8 30 (pos 0)) w64 top new c.1.1.1.0 (clear (suc (suc (suc b.at))) (omega arith) (omega arith)) k8 f3 refl at4 al w4 refl (inl ap4)
        (alu_then (ins Sub 29 29 28 (pos 0)) (length bs) c.1.1.1.1.0 (clear (suc (suc (suc (suc b.at)))) (omega arith) (omega arith)) k29 k28 (ap (λ x. Some x) v5) (omega arith) (omega arith)
        (alu_then (ins Addi 9 8 0 (pos 0)) top c.1.1.1.1.1.0 (clear (suc (suc (suc (suc (suc b.at))))) (omega arith) (omega arith)) k8 k0 (ap (λ x. Some x) v6) (omega arith) (omega arith)
        (finish (record {
          stage = record {
            at = six_on b.at at;
            same = λ r n5 n6 n7 n9 n28 n29 n30. header_same b.regs (4294967296 * n) (2 + 4294967296 * n) (length bs) top r n9 n29 n30 ∙ z.stage.same r n5 n6 n7 n9 n28 n29 n30;
            saved = saved_same I a0 b.byte _ (λ x q1 q2. two_out b.byte (top + 8 * string_words n) top (to_le_bytes w64 0) new x (under_top x q2) (ge_top n)) z.stage.saved;
            others = λ x q1 q2. two_out b.byte (top + 8 * string_words n) top (to_le_bytes w64 0) new x q1 (ge_top n) ∙ z.stage.others x q1 q2;
            outside = record { input = z.stage.outside.input; out = z.stage.outside.out; err = z.stage.outside.err; cuts = z.stage.outside.cuts };
          };
          r5 = z.r5;
          r6 = z.r6;
          r7 = z.r7;
          r9 = refl;
          r28 = z.r28;
          r29 = refl;
          header = written (with_bytes b.byte (top + 8 * string_words n) (to_le_bytes w64 0)) top (2 + 4294967296 * n) f3;
          zeros = λ j q1 q2. header_zeros b.byte top n j new refl q1 q2;
        })))))))
      where
        six_on : (n : ℕ) → n ≡ p + 20 → suc (suc (suc (suc (suc (suc n))))) ≡ p + 26
        six_on n e = omega arith

        ge_top : (n : ℕ) → top ≤ top + 8 * string_words n
        ge_top n = omega arith

        under_top : (x : ℕ) → x < save_at I + 24 → x < top
        under_top x q = let a = s.low in let c = near.above in omega arith

        two_out : (m : ℕ → ℕ) (u t : ℕ) (n1 n2 : List ℕ) (x : ℕ) → x < t → t ≤ u → with_bytes (with_bytes m u n1) t n2 x ≡ m x
        two_out m u t n1 n2 x q h = bytes_out (with_bytes m u n1) t n2 x (inl q) ∙ bytes_out m u n1 x (inl (omega arith))

    -- ---- the bytes are there

    pub record Filled (b : Fine) : Type 0 where
      pub stage : Stage top a0 b 48
      pub r7 : b.regs 7 ≡ new_top
      pub block : StringAt b.byte top (us ++ bs)

    source_of : (x : ℕ) (cs : List ℕ) (b : Fine) → Steady I a0 b → StringIn I top a0.byte x cs → Source I b (λ j. get_or cs j 0) (x + 8) (length cs)
    source_of x cs b st h = record {
      reads = string_reads x cs a0.byte h 8 (length cs) (let w = words_enough (length cs) in omega arith);
      low = λ j l. low_at j l;
      is = λ j l. (string_keep x cs b st h).here.bytes j (let w = words_enough (length cs) in omega arith);
      small = h.small;
      behind = omega arith;
      high = let w = words_enough (length cs) in let q = string_high x cs a0.byte h in omega arith;
    }
      where
        low_at : (j : ℕ) → j < length cs → IsLow I (b.regs 8) (x + 8 + j)
        low_at j l = ⊎_elim
            (λ (q : (I.place ≤ x) × (x + 8 + 8 * string_words (length cs) ≤ I.place + length I.literals)). let a = laid.above in let d = q.1 in let w = words_enough (length cs) in inl (omega arith))
            (λ (q : (I.entries.arena ≤ x) × (x + 8 + 8 * string_words (length cs) ≤ top)). let e : b.regs 8 ≡ top = st.x8 ∙ s.x8 in let a = q.0 in let d = q.1 in let w = words_enough (length cs) in inr (omega arith, omega arith))
            h.place

    string_made : (m : ℕ → ℕ) → WordIs m top (2 + 4294967296 * (length us + length bs)) → ((j : ℕ) → j < length us → m (top + 8 + j) ≡ get_or us j 0) → ((j : ℕ) → j < length bs → m (top + 8 + length us + j) ≡ get_or bs j 0) → ((j : ℕ) → length us + length bs ≤ j → j < 8 * string_words (length us + length bs) → m (top + 8 + j) ≡ 0) → StringAt m top (us ++ bs)
    string_made m h f g z =
        let e : length (us ++ bs) ≡ length us + length bs = length-append us bs in
        record {
          header = subst (λ n. WordIs m top (2 + 4294967296 * n)) (sym e) h;
          bytes = λ j l. each j (subst (λ n. j < 8 * string_words n) e l) e;
        }
      where
        each : (j : ℕ) → j < 8 * string_words (length us + length bs) → length (us ++ bs) ≡ length us + length bs → m (top + 8 + j) ≡ get_or (us ++ bs) j 0
        each j l e = ⊎_elim
            (λ (q : j < length us). f j q ∙ sym (get_or_append_left us bs 0 j q))
            (λ (q : length us ≤ j). ⊎_elim
            (λ (r : j < length us + length bs). let i : top + 8 + length us + (j - length us) ≡ top + 8 + j = omega arith in subst (λ x. m x ≡ get_or (us ++ bs) j 0) i (g (j - length us) (omega arith) ∙ sym (get_or-append_right us bs (length us) j 0 refl q)))
            (λ (r : length us + length bs ≤ j). z j r l ∙ sym (get_or_past (us ++ bs) j 0 (omega arith)))
            (cases_lt j (length us + length bs)))
            (cases_lt j (length us))

    apart_first : Apart 5 9 28 30
    apart_first = record { src_tmp = omega arith; dst_tmp = omega arith; n_tmp = omega arith; dst_src = omega arith; n_src = omega arith; n_dst = omega arith; src0 = omega arith; dst0 = omega arith; n0 = omega arith; tmp0 = omega arith; src8 = omega arith; dst8 = omega arith; n8 = omega arith; tmp8 = omega arith }

    apart_second : Apart 6 9 29 30
    apart_second = record { src_tmp = omega arith; dst_tmp = omega arith; n_tmp = omega arith; dst_src = omega arith; n_src = omega arith; n_dst = omega arith; src0 = omega arith; dst0 = omega arith; n0 = omega arith; tmp0 = omega arith; src8 = omega arith; dst8 = omega arith; n8 = omega arith; tmp8 = omega arith }

    abbrev First : Fine → ℕ → Fine → Type 0
    First b q c = Copying I 5 9 28 30 (λ j. get_or us j 0) (xa + 8) (top + 8) (length us) b q 0 c

    abbrev Second : Fine → Fine → Type 0
    Second c d = Copying I 6 9 29 30 (λ j. get_or bs j 0) (xb + 8) (top + 8 + length us) (length bs) c (p + 48) 0 d

    room_at : (b : Fine) (y n : ℕ) → b.regs 8 ≡ top → top + 8 ≤ y → y + n ≤ end_at I → Room I b y n
    room_at b y n e l h = let lo = s.low in record { above = omega arith; arena = omega arith; within = h }

    first_done : (b : Fine) → Steady I a0 b → Headed b → new_top ≤ end_at I → Trips I Q (First b (p + 34 + 7)) (length us / 8 * 8 + 2 + (length us % 8 * 7 + 1)) b
    first_done b st z l =
        let w = words_enough (length us + length bs) in
        let so = source_of xa us b st s.first in
        let ro = room_at b (top + 8) (length us) (st.x8 ∙ s.x8) (omega arith) (omega arith) in
        let z0 = st.x0 ∙ s.zero_reg in
        let al = s.aligned in
        let ax = s.first.aligned in
        let cl26 : (k : ℕ) → p + 26 ≤ k → k < p + 26 + 8 → Q k = λ k l h. clear k (omega arith) (omega arith) in
        let cl34 : (k : ℕ) → p + 34 ≤ k → k < p + 34 + 7 → Q k = λ k l h. clear k (omega arith) (omega arith) in
        let e : 8 * (length us / 8) + length us % 8 ≡ length us = omega arith in
        let e34 : p + 26 + 8 ≡ p + 34 = omega arith in
        let r5 = z.r5 in
        let r9 = z.r9 in
        let start : Copying I 5 9 28 30 (λ j. get_or us j 0) (xa + 8) (top + 8) 0 b (p + 26) (length us) b = record { at = z.stage.at; r_src = omega arith; r_dst = omega arith; r_n = z.r28; copied = record { steady = steady_refl I b; there = λ j h. absurd (omega arith); others = λ x h. refl }; same = λ r ps pd pn pt. refl; outside = record { input = refl; out = refl; err = refl; cuts = refl } } in
        then_on (length us / 8 * 8 + 2) (length us % 8 * 7 + 1)
        (words_copied I laid Q (λ j. get_or us j 0) (xa + 8) (top + 8) (length us) (p + 26) (length us % 8) b z0 so ro (omega arith) (omega arith) (omega arith) code.words cl26 (length us / 8) b e start)
        (λ c sc g. bytes_copied I laid Q 5 9 28 30 apart_first (λ j. get_or us j 0) (xa + 8) (top + 8) (length us) (p + 34) b z0 so ro code.first cl34 g.done (length us % 8) c g.sum (subst (λ q. Copying I 5 9 28 30 (λ j. get_or us j 0) (xa + 8) (top + 8) g.done b q (length us % 8) c) e34 g.copying))

    second_done : (b c : Fine) → Steady I a0 b → Steady I b c → Headed b → First b (p + 34 + 7) c → new_top ≤ end_at I → Trips I Q (Copying I 6 9 29 30 (λ j. get_or bs j 0) (xb + 8) (top + 8 + length us) (length bs) c (p + 41 + 7) 0) (length bs * 7 + 1) c
    second_done b c st sc z f l =
        let w = words_enough (length us + length bs) in
        let st2 = steady_then I a0 b c st sc in
        let so = source_of xb bs c st2 s.second in
        let ro = room_at c (top + 8 + length us) (length bs) (st2.x8 ∙ s.x8) (omega arith) (omega arith) in
        let z0 = st2.x0 ∙ s.zero_reg in
        let cl41 : (k : ℕ) → p + 41 ≤ k → k < p + 41 + 7 → Q k = λ k l h. clear k (omega arith) (omega arith) in
        let r6 : c.regs 6 ≡ xb = f.same 6 (omega arith) (omega arith) (omega arith) (omega arith) ∙ z.r6 in
        let r29 : c.regs 29 ≡ length bs = f.same 29 (omega arith) (omega arith) (omega arith) (omega arith) ∙ z.r29 in
        let rd = f.r_dst in
        let at = f.at in
        bytes_copied I laid Q 6 9 29 30 apart_second (λ j. get_or bs j 0) (xb + 8) (top + 8 + length us) (length bs) (p + 41) c z0 so ro code.second cl41 0 (length bs) c (omega arith) (record { at = omega arith; r_src = omega arith; r_dst = omega arith; r_n = r29; copied = record { steady = steady_refl I c; there = λ j h. absurd (omega arith); others = λ x h. refl }; same = λ r ps pd pn pt. refl; outside = record { input = refl; out = refl; err = refl; cuts = refl } })

    filled_of : (b c d : Fine) → Headed b → First b (p + 34 + 7) c → Copying I 6 9 29 30 (λ j. get_or bs j 0) (xb + 8) (top + 8 + length us) (length bs) c (p + 41 + 7) 0 d → Filled d
    filled_of b c d z f g = record {
      stage = record {
        at = let e = g.at in omega arith;
        same = λ r n5 n6 n7 n9 n28 n29 n30. g.same r n6 n9 n29 n30 ∙ f.same r n5 n9 n28 n30 ∙ z.stage.same r n5 n6 n7 n9 n28 n29 n30;
        saved = saved_same I a0 b.byte d.byte (λ x q1 q2. below x (saved_low x q2)) z.stage.saved;
        others = λ x q1 q2. below x q1 ∙ z.stage.others x q1 q2;
        outside = outside_then a0 b d z.stage.outside (outside_then b c d f.outside g.outside);
      };
      r7 = g.same 7 (omega arith) (omega arith) (omega arith) (omega arith) ∙ f.same 7 (omega arith) (omega arith) (omega arith) (omega arith) ∙ z.r7;
      block = string_made d.byte (word_same b.byte d.byte top _ (λ i l. g.copied.others (top + i) (inl (omega arith)) ∙ f.copied.others (top + i) (inl (omega arith))) z.header)
          (λ j l. g.copied.others (top + 8 + j) (inl (omega arith)) ∙ f.copied.there j l)
          g.copied.there
          (λ j l h. g.copied.others (top + 8 + j) (inr (omega arith)) ∙ f.copied.others (top + 8 + j) (inr (omega arith)) ∙ z.zeros j l h);
    }
      where
        below : (x : ℕ) → x < top → d.byte x ≡ b.byte x
        below x l = g.copied.others x (inl (omega arith)) ∙ f.copied.others x (inl (omega arith))

        saved_low : (x : ℕ) → x < save_at I + 24 → x < top
        saved_low x q = let a = s.low in let e = near.above in omega arith

    abbrev pub fill_most : ℕ
    fill_most = length us / 8 * 8 + 2 + (length us % 8 * 7 + 1) + (length bs * 7 + 1)

    pub filled : (b : Fine) → Steady I a0 b → Headed b → new_top ≤ end_at I → Trips I Q Filled fill_most b
    filled b st z l =
        then_on (length us / 8 * 8 + 2 + (length us % 8 * 7 + 1)) (length bs * 7 + 1) (first_done b st z l)
        (λ c sc f. to_goal (length bs * 7 + 1) (λ d sd g. filled_of b c d z f g) (second_done b c st sc z f l))

    -- ---- the whole

    -- the block stands where x8 was, and x8 is behind it
    pub record Made (b : Fine) : Type 0 where
      pub at : b.at ≡ p + 50
      pub zero_reg : b.regs 0 ≡ 0
      pub r5 : b.regs 5 ≡ top
      pub r8 : b.regs 8 ≡ new_top
      pub block : StringAt b.byte top (us ++ bs)
      pub same : (r : ℕ) → r ≢ 5 → r ≢ 6 → r ≢ 7 → r ≢ 8 → r ≢ 9 → r ≢ 28 → r ≢ 29 → r ≢ 30 → b.regs r ≡ a0.regs r
      pub saved : Saved I a0 b.byte
      pub others : (x : ℕ) → x < top → (x < save_at I) ⊎ (save_at I + 24 ≤ x) → b.byte x ≡ a0.byte x
      pub outside : SameOutside a0 b

    -- and at the return nothing else has changed but scratch registers and the save area
    pub record Joined (b : Fine) : Type 0 where
      pub at : b.at ≡ ret
      pub zero_reg : b.regs 0 ≡ 0
      pub r5 : b.regs 5 ≡ top
      pub r8 : b.regs 8 ≡ new_top
      pub r9 : b.regs 9 ≡ end_at I
      pub block : StringAt b.byte top (us ++ bs)
      pub same : (r : ℕ) → r ≢ 0 → r ≢ 5 → r ≢ 6 → r ≢ 7 → r ≢ 8 → r ≢ 9 → IsKnown (a0.regs r) → b.regs r ≡ a0.regs r
      pub others : (x : ℕ) → x < top → (x < save_at I) ⊎ (save_at I + 24 ≤ x) → b.byte x ≡ a0.byte x
      pub outside : SameOutside a0 b

    load_same : (g : ℕ → ℕ) (u t v w x y e r : ℕ) → r ≢ 9 → r ≢ 28 → r ≢ 29 → r ≢ 30 → with_value (with_value (with_value (with_value (with_value (with_value (with_value g 9 u) 9 t) 28 v) 29 w) 30 x) 9 y) 9 e r ≡ g r
    load_same g u t v w x y e r n9 n28 n29 n30 =
        with_other (with_value (with_value (with_value (with_value (with_value (with_value g 9 u) 9 t) 28 v) 29 w) 30 x) 9 y) 9 e r n9 ∙ with_other (with_value (with_value (with_value (with_value (with_value g 9 u) 9 t) 28 v) 29 w) 30 x) 9 y r n9 ∙ with_other (with_value (with_value (with_value (with_value g 9 u) 9 t) 28 v) 29 w) 30 x r n30 ∙ with_other (with_value (with_value (with_value g 9 u) 9 t) 28 v) 29 w r n29 ∙ with_other (with_value (with_value g 9 u) 9 t) 28 v r n28 ∙ with_other (with_value g 9 u) 9 t r n9 ∙ with_other g 9 u r n9

    pub loaded : (b : Fine) → Made b → ret < length I.code → Trips I Q Joined 8 b
    loaded b z rc =
        let at = z.at in
        let c = stands_at I.code (p + 50) b.at (c_load I (p + 50)) (sym at) code.load in
        let e0 : save_at I + 0 ≡ save_at I = omega arith in
        let nr = near.near in
        let lo = (laid_low I laid) in
        let hi = laid.high in
        let r31 : b.regs 31 ≡ base + 4 * ret = z.same 31 (omega arith) (omega arith) (omega arith) (omega arith) (omega arith) (omega arith) (omega arith) (omega arith) ∙ s.x31 in
        let k31 : IsKnown (b.regs 31) = omega arith in
        let to31 : (b.regs 31 + wrapped (pos 0)) % 2 ^ 64 ≡ base + 4 * ret = omega arith in
        let sm = save_mod in
        let q8 : (save_at I + 8) % 8 ≡ 0 = omega arith in
        let q16 : (save_at I + 16) % 8 ≡ 0 = omega arith in
        let reach55 : Reaches (p + 50 + 5) (end_at I) = subst (λ q. Reaches q (end_at I)) (let e : p + 55 ≡ p + 50 + 5 = omega arith in e) (reach_end 55 (omega arith)) in
        la_then 9 (p + 50) (save_at I) at (omega arith) (omega arith) z.zero_reg (reach_save 50 (omega arith)) c.0 c.1.0 (clear b.at (omega arith) (omega arith)) (clear (suc b.at) (omega arith) (omega arith)) (λ u.
        restore_then 9 28 (save_at I) 0 (a0.regs 28) c.1.1.0 (clear _ (omega arith) (omega arith)) save_known (save_addr 0 (omega arith) ∙ e0) save_mod (inr (subst (λ x. CanWrite I x 8) e0 (save_write 0 (omega arith)))) (omega arith) (omega arith) z.saved.r28 (λ v28 e28.
        restore_then 9 29 (save_at I + 8) 8 (a0.regs 29) c.1.1.1.0 (clear _ (omega arith) (omega arith)) save_known (save_addr 8 (omega arith)) q8 (inr (save_write 8 (omega arith))) (omega arith) (omega arith) z.saved.r29 (λ v29 e29.
        restore_then 9 30 (save_at I + 16) 16 (a0.regs 30) c.1.1.1.1.0 (clear _ (omega arith) (omega arith)) save_known (save_addr 16 (omega arith)) q16 (inr (save_write 16 (omega arith))) (omega arith) (omega arith) z.saved.r30 (λ v30 e30.
        la_then 9 (p + 50 + 5) (end_at I) (omega arith) (omega arith) (omega arith) z.zero_reg reach55 c.1.1.1.1.1.0 c.1.1.1.1.1.1.0 (clear _ (omega arith) (omega arith)) (clear _ (omega arith) (omega arith)) (λ y.
        leaps_then 31 ret (pos 0) c.1.1.1.1.1.1.1.0 (clear _ (omega arith) (omega arith)) k31 to31
        (finish (record {
          at = refl;
          zero_reg = z.zero_reg;
          r5 = z.r5;
          r8 = z.r8;
          r9 = refl;
          block = z.block;
          same = λ r n0 n5 n6 n7 n8 n9 k. each u (save_at I) v28 v29 v30 y r n5 n6 n7 n8 n9 k e28 e29 e30;
          others = z.others;
          outside = record { input = z.outside.input; out = z.outside.out; err = z.outside.err; cuts = z.outside.cuts };
        })))))))
      where
        each : (u t v w x y r : ℕ) → r ≢ 5 → r ≢ 6 → r ≢ 7 → r ≢ 8 → r ≢ 9 → IsKnown (a0.regs r) → (IsKnown (a0.regs 28) → v ≡ a0.regs 28) → (IsKnown (a0.regs 29) → w ≡ a0.regs 29) → (IsKnown (a0.regs 30) → x ≡ a0.regs 30) → with_value (with_value (with_value (with_value (with_value (with_value (with_value b.regs 9 u) 9 t) 28 v) 29 w) 30 x) 9 y) 9 (end_at I) r ≡ a0.regs r
        each u t v w x y r n5 n6 n7 n8 n9 k e28 e29 e30 = ⊎_elim
            (λ (q : r ≡ 28). subst (λ r. IsKnown (a0.regs r) → with_value (with_value (with_value (with_value (with_value (with_value (with_value b.regs 9 u) 9 t) 28 v) 29 w) 30 x) 9 y) 9 (end_at I) r ≡ a0.regs r) (sym q) e28 k)
            (λ (n28 : r ≢ 28). ⊎_elim
            (λ (q : r ≡ 29). subst (λ r. IsKnown (a0.regs r) → with_value (with_value (with_value (with_value (with_value (with_value (with_value b.regs 9 u) 9 t) 28 v) 29 w) 30 x) 9 y) 9 (end_at I) r ≡ a0.regs r) (sym q) e29 k)
            (λ (n29 : r ≢ 29). ⊎_elim
            (λ (q : r ≡ 30). subst (λ r. IsKnown (a0.regs r) → with_value (with_value (with_value (with_value (with_value (with_value (with_value b.regs 9 u) 9 t) 28 v) 29 w) 30 x) 9 y) 9 (end_at I) r ≡ a0.regs r) (sym q) e30 k)
            (λ (n30 : r ≢ 30). load_same b.regs u t v w x y (end_at I) r n9 n28 n29 n30 ∙ z.same r n5 n6 n7 n8 n9 n28 n29 n30)
            (eq_cases r 30))
            (eq_cases r 29))
            (eq_cases r 28)

    -- up to where x8 moves
    pub front : new_top ≤ end_at I → Trips I Q (λ b. (b.at ≡ p + 49) × (b.regs 5 ≡ top) × (b.regs 7 ≡ new_top) × Made (put 8 new_top b)) (7 + (3 + (6 + (6 + (fill_most + 1))))) a0
    front l =
        then_on 7 (3 + (6 + (6 + (fill_most + 1)))) (kept a0 s.at s.zero_reg) (λ b1 t1 k1.
        then_on 3 (6 + (6 + (fill_most + 1))) (sized b1 t1 k1) (λ b2 u2 k2. let t2 = steady_then I a0 b1 b2 t1 u2 in
        then_on 6 (6 + (fill_most + 1)) (roomed b2 t2 k2 l) (λ b3 u3 k3. let t3 = steady_then I a0 b2 b3 t2 u3 in
        then_on 6 (fill_most + 1) (headed b3 t3 k3 l) (λ b4 u4 k4. let t4 = steady_then I a0 b3 b4 t3 u4 in
        then_on fill_most 1 (filled b4 t4 k4 l) (λ b5 u5 k5. last b5 (steady_then I a0 b4 b5 t4 u5) k5)))))
      where
        last : (b : Fine) → Steady I a0 b → Filled b → Trips I Q (λ b. (b.at ≡ p + 49) × (b.regs 5 ≡ top) × (b.regs 7 ≡ new_top) × Made (put 8 new_top b)) 1 b
        last b t k =
            let at = k.stage.at in
            let c = stands_at I.code (p + 48) b.at c_done (sym at) code.done in
            let x8 : b.regs 8 ≡ top = t.x8 ∙ s.x8 in
            let nr = near.near in
            let hi = s.high in
            alu_then (ins Addi 5 8 0 (pos 0)) top c.0 (clear b.at (omega arith) (omega arith)) (omega arith) (zero_known (b.regs 0) (t.x0 ∙ s.zero_reg)) (ap (λ x. Some x) (omega arith)) (omega arith) (omega arith)
            (finish (
              omega arith,
              refl,
              k.r7,
              record {
                at = omega arith;
                zero_reg = t.x0 ∙ s.zero_reg;
                r5 = refl;
                r8 = refl;
                block = k.block;
                same = λ r n5 n6 n7 n8 n9 n28 n29 n30. with_other (with_value b.regs 5 top) 8 new_top r n8 ∙ with_other b.regs 5 top r n5 ∙ k.stage.same r n5 n6 n7 n9 n28 n29 n30;
                saved = k.stage.saved;
                others = k.stage.others;
                outside = record { input = k.stage.outside.input; out = k.stage.outside.out; err = k.stage.outside.err; cuts = k.stage.outside.cuts };
              },
            ))

    pub concat_fits : new_top ≤ end_at I → ret < length I.code → Makes I Q Made Joined (concat_most us bs) a0
    concat_fits l rc =
        let f = front l in
        let g = f.goal in
        let t = loaded (put 8 new_top f.to) g.3 rc in
        let nr = near.near in
        let at = g.0 in
        let c = stands_at I.code (p + 48) (p + 48) c_done refl code.done in
        let e49 : suc (p + 48) ≡ f.to.at = omega arith in
        let few1 = f.few in
        let few2 = t.few in
        let z0 : f.to.regs 0 ≡ 0 = (trip_steady I Q f.count a0 f.to f.trip).x0 ∙ s.zero_reg in
        record {
          mid = f.to;
          next = put 8 new_top f.to;
          to = t.to;
          m = f.count;
          n = t.count;
          few = omega arith;
          front = f.trip;
          ins = ins Addi 8 7 0 (pos 0);
          code = subst (λ n. slice_get I.code n ≡ Some (ins Addi 8 7 0 (pos 0))) e49 c.1.0;
          quiet = clear f.to.at (omega arith) (omega arith);
          act = alu (ins Addi 8 7 0 (pos 0)) f.to new_top (let r7 = g.2 in omega arith) (zero_known (f.to.regs 0) z0) (value_is Addi _ _ _ _ new_top (ap (λ x. Some x) (let r7 = g.2 in omega arith))) (omega arith);
          made = g.3;
          back = t.trip;
          goal = t.goal;
        }

    pub concat_full : end_at I < new_top → full < length I.code → Trips I Q Full 20 a0
    concat_full l fc =
        then_on 7 13 (kept a0 s.at s.zero_reg) (λ b1 t1 k1.
        then_on 3 10 (sized b1 t1 k1) (λ b2 u2 k2. none_left b2 (steady_then I a0 b1 b2 t1 u2) k2 l fc))

-- ---- the routine as one list

pub concat_stands : (I : Emitted) (p full : ℕ) → Stands I.code p (concat_code I p full) → ConcatCode I p full
concat_stands I p full st =
    let s1 = stands_right I.code p (c_save I p) (c_sizes ++ (c_room (p + 10) full ++ (c_header ++ (words_code ++ (bytes_code 5 9 28 30 ++ (bytes_code 6 9 29 30 ++ (c_done ++ c_load I (p + 50)))))))) st in
    let s2 = stands_right I.code (p + 7) c_sizes (c_room (p + 10) full ++ (c_header ++ (words_code ++ (bytes_code 5 9 28 30 ++ (bytes_code 6 9 29 30 ++ (c_done ++ c_load I (p + 50))))))) s1 in
    let s3 = stands_at I.code (p + 7 + 3) (p + 10) (c_room (p + 10) full ++ (c_header ++ (words_code ++ (bytes_code 5 9 28 30 ++ (bytes_code 6 9 29 30 ++ (c_done ++ c_load I (p + 50))))))) (omega arith) s2 in
    let s4 = stands_at I.code (p + 10 + 10) (p + 20) (c_header ++ (words_code ++ (bytes_code 5 9 28 30 ++ (bytes_code 6 9 29 30 ++ (c_done ++ c_load I (p + 50)))))) (omega arith) (stands_right I.code (p + 10) (c_room (p + 10) full) (c_header ++ (words_code ++ (bytes_code 5 9 28 30 ++ (bytes_code 6 9 29 30 ++ (c_done ++ c_load I (p + 50)))))) s3) in
    let s5 = stands_at I.code (p + 20 + 6) (p + 26) (words_code ++ (bytes_code 5 9 28 30 ++ (bytes_code 6 9 29 30 ++ (c_done ++ c_load I (p + 50))))) (omega arith) (stands_right I.code (p + 20) c_header (words_code ++ (bytes_code 5 9 28 30 ++ (bytes_code 6 9 29 30 ++ (c_done ++ c_load I (p + 50))))) s4) in
    let s6 = stands_at I.code (p + 26 + 8) (p + 34) (bytes_code 5 9 28 30 ++ (bytes_code 6 9 29 30 ++ (c_done ++ c_load I (p + 50)))) (omega arith) (stands_right I.code (p + 26) words_code (bytes_code 5 9 28 30 ++ (bytes_code 6 9 29 30 ++ (c_done ++ c_load I (p + 50)))) s5) in
    let s7 = stands_at I.code (p + 34 + 7) (p + 41) (bytes_code 6 9 29 30 ++ (c_done ++ c_load I (p + 50))) (omega arith) (stands_right I.code (p + 34) (bytes_code 5 9 28 30) (bytes_code 6 9 29 30 ++ (c_done ++ c_load I (p + 50))) s6) in
    let s8 = stands_at I.code (p + 41 + 7) (p + 48) (c_done ++ c_load I (p + 50)) (omega arith) (stands_right I.code (p + 41) (bytes_code 6 9 29 30) (c_done ++ c_load I (p + 50)) s7) in
    let s9 = stands_at I.code (p + 48 + 2) (p + 50) (c_load I (p + 50)) (omega arith) (stands_right I.code (p + 48) c_done (c_load I (p + 50)) s8) in
    record {
      save = stands_left I.code p (c_save I p) (c_sizes ++ (c_room (p + 10) full ++ (c_header ++ (words_code ++ (bytes_code 5 9 28 30 ++ (bytes_code 6 9 29 30 ++ (c_done ++ c_load I (p + 50)))))))) st;
      sizes = stands_left I.code (p + 7) c_sizes (c_room (p + 10) full ++ (c_header ++ (words_code ++ (bytes_code 5 9 28 30 ++ (bytes_code 6 9 29 30 ++ (c_done ++ c_load I (p + 50))))))) s1;
      room = stands_left I.code (p + 10) (c_room (p + 10) full) (c_header ++ (words_code ++ (bytes_code 5 9 28 30 ++ (bytes_code 6 9 29 30 ++ (c_done ++ c_load I (p + 50)))))) s3;
      header = stands_left I.code (p + 20) c_header (words_code ++ (bytes_code 5 9 28 30 ++ (bytes_code 6 9 29 30 ++ (c_done ++ c_load I (p + 50))))) s4;
      words = stands_left I.code (p + 26) words_code (bytes_code 5 9 28 30 ++ (bytes_code 6 9 29 30 ++ (c_done ++ c_load I (p + 50)))) s5;
      first = stands_left I.code (p + 34) (bytes_code 5 9 28 30) (bytes_code 6 9 29 30 ++ (c_done ++ c_load I (p + 50))) s6;
      second = stands_left I.code (p + 41) (bytes_code 6 9 29 30) (c_done ++ c_load I (p + 50)) s7;
      done = stands_left I.code (p + 48) c_done (c_load I (p + 50)) s8;
      load = s9;
    }
