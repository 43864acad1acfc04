-- What raises, and what makes a string of a character.
use Rattle.std.proofs.Common.{◌≡◌, ◌≢◌, ℕ, zero, suc, ◌+◌, ◌-◌, ◌*◌, ◌/◌, ◌%◌, ◌^◌, ◌<◌, ◌≤◌, pos, [], ◌∷◌, length, get_or, Some, true, false, not, arith, refl, sym, ap, ◌∙◌, subst, inl}
use Rattle.std.specs.Prelude.{slice_get, nat_lt}
use Rattle.std.specs.Int.{w64, to_le_bytes}
use Rattle.std.proofs.lemmas.Bool.Decides.{nat_tests}
use Rattle.rv_isa.specs.declared.table.Op.TheVariants.{Addi, Slli, Srli, Bgeu, Ld, Sd, Jalr}
use Rattle.rv_isa.specs.Word.{ins}
use Rattle.rv_machine.specs.Step.{wrapped}
use Rattle.simulation.proofs.Heaps.{with_other}
use Rattle.rv_acts.specs.Emitted.{Emitted, base, IsLaid, CanWrite}
use Rattle.rv_acts.specs.Fine.{IsKnown, with_value, with_bytes, Fine}
use Rattle.rv_acts.specs.Act.{put, alu}
use Rattle.rv_acts.specs.Trip.{Steady}
use Rattle.rv_acts.proofs.Bytes.{bytes_in, bytes_out}
use Rattle.rv_acts.proofs.Arena.{word_same}
use Rattle.rv_pieces.specs.Stand.{Stands}
use Rattle.rv_pieces.specs.Pair.{Reaches}
use Rattle.rv_pieces.specs.Route.{Trips, Routes}
use Rattle.rv_pieces.proofs.Standing.{zero_known, stands_at, stands_within}
use Rattle.rv_pieces.proofs.Words.{written}
use Rattle.rv_pieces.proofs.Then.{value_is, finish, to_goal, alu_then, load_then, store_then, falls_then, takes_then, leaps_then}
use Rattle.rv_pieces.proofs.Saving.{la_then, jump_then}
use Rattle.rv_pieces.proofs.Routing.{arrive, trip_first, grow_first}
use Rattle.rv_acts.specs.Emitted.{IsQuiet}
use Rattle.routine_laws.specs.Places.{end_at, IsNear, IsClear}
use Rattle.routine_laws.specs.Strings.{StringAt, SameOutside}
use Rattle.routine_laws.specs.Raise.{raise_code, Handled, Raised, str_code, Lettered, Stringed, StrFull}
use Rattle.routine_laws.proofs.Strings.{laid_low}
use Rattle.routine_laws.proofs.Joining.{block_known}

pub raises : (I : Emitted) (laid : IsLaid I) (p name ret : ℕ) → Stands I.code p (raise_code p name) → IsClear I p 5 → Reaches p name → (a : Fine) → Handled I ret p a → ret < length I.code → Trips I (IsQuiet I) (Raised name ret a) 5 a
raises I laid p name ret code clear reach a h rc =
    let at = h.at in
    let c = stands_at I.code p a.at (raise_code p name) (sym at) code in
    let lo = laid_low I laid in
    let hi = laid.high in
    let low = h.x18 in
    let al = h.aligned in
    let k0 = zero_known (a.regs 0) h.x0 in
    let k18 : IsKnown (a.regs 18) = omega arith in
    let v1 : (a.regs 18 + 0) % 2 ^ 64 ≡ a.regs 18 = omega arith in
    let ad : (a.regs 18 + wrapped (pos 8)) % 2 ^ 64 ≡ a.regs 18 + 8 = omega arith in
    let al8 : (a.regs 18 + 8) % 8 ≡ 0 = omega arith in
    let k31 : IsKnown (base + 4 * ret) = omega arith in
    let to31 : (base + 4 * ret + wrapped (pos 0)) % 2 ^ 64 ≡ base + 4 * ret = omega arith in
    la_then 11 p name at (omega arith) (omega arith) h.x0 reach c.0 c.1.0 (clear a.at (omega arith) (omega arith)) (clear (suc a.at) (omega arith) (omega arith)) (λ u.
    alu_then (ins Addi 10 18 0 (pos 0)) (a.regs 18) c.1.1.0 (clear (suc (suc a.at)) (omega arith) (omega arith)) k18 k0 (ap (λ x. Some x) v1) (omega arith) (omega arith)
    (load_then (ins Ld 31 18 0 (pos 8)) w64 (a.regs 18 + 8) (base + 4 * ret) c.1.1.1.0 (clear (suc (suc (suc a.at))) (omega arith) (omega arith)) k18 refl ad al8 h.reads h.code.known h.code.is (omega arith) (omega arith)
    (leaps_then 31 ret (pos 0) c.1.1.1.1.0 (clear (suc (suc (suc (suc a.at)))) (omega arith) (omega arith)) k31 to31
    (finish (record {
      at = refl;
      x10 = refl;
      x11 = refl;
      same = λ r n10 n11 n31. with_other (with_value (with_value (with_value a.regs 11 u) 11 name) 10 (a.regs 18)) 31 (base + 4 * ret) r n31 ∙ with_other (with_value (with_value a.regs 11 u) 11 name) 10 (a.regs 18) r n10 ∙ with_other (with_value a.regs 11 u) 11 name r n11 ∙ with_other a.regs 11 u r n11;
      bytes = refl;
      outside = record { input = refl; out = refl; err = refl; cuts = refl };
    })))))

-- ---- a string of one character

-- the bytes of a word that is one byte
small_word : (v j : ℕ) → v < 256 → j < 8 → get_or (to_le_bytes w64 v) j 0 ≡ get_or (v ∷ []) j 0
small_word v zero l h = omega arith
small_word v (suc zero) l h = omega arith
small_word v (suc (suc zero)) l h = omega arith
small_word v (suc (suc (suc zero))) l h = omega arith
small_word v (suc (suc (suc (suc zero)))) l h = omega arith
small_word v (suc (suc (suc (suc (suc zero))))) l h = omega arith
small_word v (suc (suc (suc (suc (suc (suc zero)))))) l h = omega arith
small_word v (suc (suc (suc (suc (suc (suc (suc zero))))))) l h = omega arith
small_word v (suc (suc (suc (suc (suc (suc (suc (suc j)))))))) l h = absurd (omega arith)

letter_at : (m : ℕ → ℕ) (x v : ℕ) → v < 256 → StringAt (with_bytes (with_bytes m x (to_le_bytes w64 4294967298)) (x + 8) (to_le_bytes w64 v)) x (v ∷ [])
letter_at m x v l =
    let m1 = with_bytes m x (to_le_bytes w64 4294967298) in
    let m2 = with_bytes m1 (x + 8) (to_le_bytes w64 v) in
    record {
      header = word_same (with_bytes m x (to_le_bytes w64 4294967298)) (with_bytes (with_bytes m x (to_le_bytes w64 4294967298)) (x + 8) (to_le_bytes w64 v)) x 4294967298 (λ i h. bytes_out (with_bytes m x (to_le_bytes w64 4294967298)) (x + 8) (to_le_bytes w64 v) (x + i) (inl (omega arith))) (written m x 4294967298 (omega arith));
      bytes = λ j h. bytes_in (with_bytes m x (to_le_bytes w64 4294967298)) (x + 8) (to_le_bytes w64 v) (x + 8 + j) (omega arith) (omega arith) ∙ ap (λ k. get_or (to_le_bytes w64 v) k 0) (let q : x + 8 + j - (x + 8) ≡ j = omega arith in q) ∙ small_word v j l h;
    }

module _ (I : Emitted) (laid : IsLaid I) (near : IsNear I) (p full : ℕ) (code : Stands I.code p (str_code p full)) (clear : IsClear I p 14) (letter top ret : ℕ) (a : Fine) (s : Lettered I letter top ret p a) where
  inside : p + 14 ≤ length I.code
  inside = stands_within I.code p (str_code p full) (omega arith) code

  low_pc : base + 4 * (p + 14) < 2147545088
  low_pc = let i = inside in let t = laid.text in let b = laid.above in let n = near.near in omega arith

  room_test : (v w : ℕ) → w ≤ v → not (nat_lt v w) ≡ true
  room_test v w l = grind (arith, nat_tests)

  full_test : (v w : ℕ) → v < w → not (nat_lt v w) ≡ false
  full_test v w l = grind (arith, nat_tests)

  -- the string stands above x8
  record Ready (b : Fine) : Type 0 where
    at : b.at ≡ p + 12
    x7 : b.regs 7 ≡ top + 16
    x5 : b.regs 5 ≡ top
    block : StringAt b.byte top (letter ∷ [])
    same : (r : ℕ) → r ≢ 5 → r ≢ 6 → r ≢ 7 → b.regs r ≡ a.regs r
    others : (x : ℕ) → x < top → b.byte x ≡ a.byte x
    outside : SameOutside a b

  ready : top + 16 ≤ end_at I → Trips I (IsQuiet I) Ready 9 a
  ready room =
      let at = s.at in
      let c = stands_at I.code p a.at (str_code p full) (sym at) code in
      let pc = low_pc in
      let nr = near.near in
      let na = near.above in
      let x8 = s.x8 in
      let x9 = s.x9 in
      let x5 = s.x5 in
      let lb = s.byte in
      let lo = s.low in
      let al = s.aligned in
      let z = s.x0 in
      let k0 = zero_known (a.regs 0) z in
      let k8 : IsKnown (a.regs 8) = omega arith in
      let k9 : IsKnown (a.regs 9) = omega arith in
      let k5 : IsKnown (a.regs 5) = omega arith in
      let k7 : IsKnown (top + 16) = omega arith in
      let v7 : (a.regs 8 + 16) % 2 ^ 64 ≡ top + 16 = omega arith in
      let fits : top + 16 ≤ a.regs 9 = omega arith in
      let onto : (base + 4 * suc a.at + wrapped (pos 16)) % 2 ^ 64 ≡ base + 4 * (p + 5) = omega arith in
      let q5 : suc (suc (suc (suc (suc a.at)))) ≡ p + 5 = omega arith in
      let d = stands_at I.code (suc (suc (suc (suc (suc a.at))))) (p + 5) (ins Addi 6 0 0 (pos 1) ∷ ins Slli 6 6 0 (pos 32) ∷ ins Addi 6 6 0 (pos 2) ∷ ins Sd 0 8 6 (pos 0) ∷ ins Srli 5 5 0 (pos 1) ∷ ins Sd 0 8 5 (pos 8) ∷ ins Addi 5 8 0 (pos 0) ∷ ins Addi 8 7 0 (pos 0) ∷ ins Jalr 0 31 0 (pos 0) ∷ []) q5 c.1.1.1.1.1 in
      let q12 : suc (suc (suc (suc (suc (suc (suc (p + 5))))))) ≡ p + 12 = omega arith in
      let w1 : (a.regs 0 + 1) % 2 ^ 64 ≡ 1 = omega arith in
      let l1 : IsKnown 1 = omega arith in
      let l2 : IsKnown 4294967296 = omega arith in
      let l3 : IsKnown 4294967298 = omega arith in
      let ll : IsKnown letter = omega arith in
      let half : a.regs 5 / 2 ≡ letter = omega arith in
      let s0 : (a.regs 8 + wrapped (pos 0)) % 2 ^ 64 ≡ top = omega arith in
      let s8 : (a.regs 8 + wrapped (pos 8)) % 2 ^ 64 ≡ top + 8 = omega arith in
      let m8 : (top + 8) % 8 ≡ 0 = omega arith in
      let cw0 : CanWrite I top 8 = (omega arith, omega arith) in
      let cw8 : CanWrite I (top + 8) 8 = (omega arith, omega arith) in
      let g0 : a.regs 8 ≤ top = omega arith in
      let g8 : a.regs 8 ≤ top + 8 = omega arith in
      let v5 : (a.regs 8 + 0) % 2 ^ 64 ≡ top = omega arith in
      alu_then (ins Addi 7 8 0 (pos 16)) (top + 16) c.0 (clear a.at (omega arith) (omega arith)) k8 k0 (ap (λ x. Some x) v7) (omega arith) (omega arith)
      (takes_then (ins Bgeu 0 9 7 (pos 16)) (p + 5) c.1.0 (clear (suc a.at) (omega arith) (omega arith)) k9 k7 (ap (λ t. Some t) (room_test (a.regs 9) (top + 16) fits)) onto
      (alu_then (ins Addi 6 0 0 (pos 1)) 1 d.0 (clear (p + 5) (omega arith) (omega arith)) k0 k0 (ap (λ x. Some x) w1) (omega arith) (omega arith)
      (alu_then (ins Slli 6 6 0 (pos 32)) 4294967296 d.1.0 (clear (suc (p + 5)) (omega arith) (omega arith)) l1 k0 refl (omega arith) (omega arith)
      (alu_then (ins Addi 6 6 0 (pos 2)) 4294967298 d.1.1.0 (clear (suc (suc (p + 5))) (omega arith) (omega arith)) l2 k0 refl (omega arith) (omega arith)
      (store_then (ins Sd 0 8 6 (pos 0)) w64 top (to_le_bytes w64 4294967298) d.1.1.1.0 (clear (suc (suc (suc (p + 5)))) (omega arith) (omega arith)) k8 l3 refl s0 al cw0 refl (inl g0)
      (alu_then (ins Srli 5 5 0 (pos 1)) letter d.1.1.1.1.0 (clear (suc (suc (suc (suc (p + 5))))) (omega arith) (omega arith)) k5 k0 (ap (λ x. Some x) half) (omega arith) (omega arith)
      (store_then (ins Sd 0 8 5 (pos 8)) w64 (top + 8) (to_le_bytes w64 letter) d.1.1.1.1.1.0 (clear (suc (suc (suc (suc (suc (p + 5)))))) (omega arith) (omega arith)) k8 ll refl s8 m8 cw8 refl (inl g8)
      (alu_then (ins Addi 5 8 0 (pos 0)) top d.1.1.1.1.1.1.0 (clear (suc (suc (suc (suc (suc (suc (p + 5))))))) (omega arith) (omega arith)) k8 k0 (ap (λ x. Some x) v5) (omega arith) (omega arith)
      (finish (record {
        at = q12;
        x7 = refl;
        x5 = refl;
        block = letter_at a.byte top letter lb;
        same = λ r n5 n6 n7. six_same a.regs (top + 16) letter top r n5 n6 n7;
        others = λ x l. bytes_out (with_bytes a.byte top (to_le_bytes w64 4294967298)) (top + 8) (to_le_bytes w64 letter) x (inl (omega arith)) ∙ bytes_out a.byte top (to_le_bytes w64 4294967298) x (inl l);
        outside = record { input = refl; out = refl; err = refl; cuts = refl };
      }))))))))))
    where
      six_same : (g : ℕ → ℕ) (t v w r : ℕ) → r ≢ 5 → r ≢ 6 → r ≢ 7 → with_value (with_value (with_value (with_value (with_value (with_value g 7 t) 6 1) 6 4294967296) 6 4294967298) 5 v) 5 w r ≡ g r
      six_same g t v w r n5 n6 n7 = with_other (with_value (with_value (with_value (with_value (with_value g 7 t) 6 1) 6 4294967296) 6 4294967298) 5 v) 5 w r n5 ∙ with_other (with_value (with_value (with_value (with_value g 7 t) 6 1) 6 4294967296) 6 4294967298) 5 v r n5 ∙ with_other (with_value (with_value (with_value g 7 t) 6 1) 6 4294967296) 6 4294967298 r n6 ∙ with_other (with_value (with_value g 7 t) 6 1) 6 4294967296 r n6 ∙ with_other (with_value g 7 t) 6 1 r n6 ∙ with_other g 7 t r n7

  pub strings : top + 16 ≤ end_at I → ret < length I.code → Routes I (IsQuiet I) (Stringed I letter top ret a) 11 a
  strings room rc = trip_first 9 2 (ready room) (λ b t r. last b t r)
    where
      last : (b : Fine) → Steady I a b → Ready b → Routes I (IsQuiet I) (Stringed I letter top ret a) 2 b
      last b t r =
          let at = r.at in
          let c = stands_at I.code p p (str_code p full) refl code in
          let q12 : suc (suc (suc (suc (suc (suc (suc (suc (suc (suc (suc (suc p))))))))))) ≡ b.at = omega arith in
          let q13 : suc (suc (suc (suc (suc (suc (suc (suc (suc (suc (suc (suc (suc p)))))))))))) ≡ suc b.at = omega arith in
          let lo = laid_low I laid in
          let hi = laid.high in
          let nr = near.near in
          let x7 = r.x7 in
          let lw = s.low in
          let k7 : IsKnown (b.regs 7) = omega arith in
          let z : b.regs 0 ≡ 0 = t.x0 ∙ s.x0 in
          let k0 = zero_known (b.regs 0) z in
          let x8 : b.regs 8 ≡ top = t.x8 ∙ s.x8 in
          let v8 : (b.regs 7 + 0) % 2 ^ 64 ≡ top + 16 = omega arith in
          let grown : top + 16 ≡ b.regs 8 + 8 * 2 = omega arith in
          let x31 : b.regs 31 ≡ base + 4 * ret = r.same 31 (omega arith) (omega arith) (omega arith) ∙ s.x31 in
          let k31 : IsKnown (b.regs 31) = omega arith in
          let to31 : (b.regs 31 + wrapped (pos 0)) % 2 ^ 64 ≡ base + 4 * ret = omega arith in
          grow_first 1 (ins Addi 8 7 0 (pos 0)) (put 8 (top + 16) b) (subst (λ n. slice_get I.code n ≡ Some (ins Addi 8 7 0 (pos 0))) q12 c.1.1.1.1.1.1.1.1.1.1.1.1.0) (clear b.at (omega arith) (omega arith)) (alu (ins Addi 8 7 0 (pos 0)) b (top + 16) k7 k0 (value_is Addi _ _ _ _ (top + 16) (ap (λ x. Some x) v8)) (omega arith))
          (record { words = 2; x0 = refl; x8 = grown; room = room; low = λ x l. refl; known = λ x l h. block_known b.byte top (letter ∷ []) r.block (λ j. one_small j) x (omega arith) (omega arith) })
          (arrive (leaps_then 31 ret (pos 0) (subst (λ n. slice_get I.code n ≡ Some (ins Jalr 0 31 0 (pos 0))) q13 c.1.1.1.1.1.1.1.1.1.1.1.1.1.0) (clear (suc b.at) (omega arith) (omega arith)) k31 to31
          (finish (record {
            at = refl;
            x5 = r.x5;
            x8 = refl;
            block = r.block;
            same = λ j n5 n6 n7 n8. with_other b.regs 8 (top + 16) j n8 ∙ r.same j n5 n6 n7;
            others = r.others;
            outside = record { input = r.outside.input; out = r.outside.out; err = r.outside.err; cuts = r.outside.cuts };
          }))))
        where
          one_small : (j : ℕ) → get_or (letter ∷ []) j 0 < 256
          one_small zero = s.byte
          one_small (suc j) = omega arith

  pub str_fills : end_at I < top + 16 → full < length I.code → Trips I (IsQuiet I) (StrFull I full a) 5 a
  str_fills over fc =
      let at = s.at in
      let c = stands_at I.code p a.at (str_code p full) (sym at) code in
      let pc = low_pc in
      let nr = near.near in
      let t = laid.text in
      let ab = laid.above in
      let x8 = s.x8 in
      let x9 = s.x9 in
      let z = s.x0 in
      let hi = s.high in
      let k0 = zero_known (a.regs 0) z in
      let k8 : IsKnown (a.regs 8) = omega arith in
      let k9 : IsKnown (a.regs 9) = omega arith in
      let k7 : IsKnown (top + 16) = omega arith in
      let v7 : (a.regs 8 + 16) % 2 ^ 64 ≡ top + 16 = omega arith in
      let v12 : (a.regs 0 + 2) % 2 ^ 64 ≡ 2 = omega arith in
      let less : a.regs 9 < top + 16 = omega arith in
      let reach : Reaches (p + 3) (base + 4 * full) = record { from = omega arith; to = omega arith; back = omega arith; on = omega arith } in
      to_goal 5 (λ b st g. record { at = g.0; x12 = g.1; steady = st; outside = g.2 })
      (alu_then (ins Addi 7 8 0 (pos 16)) (top + 16) c.0 (clear a.at (omega arith) (omega arith)) k8 k0 (ap (λ x. Some x) v7) (omega arith) (omega arith)
      (falls_then (ins Bgeu 0 9 7 (pos 16)) c.1.0 (clear (suc a.at) (omega arith) (omega arith)) k9 k7 (ap (λ t. Some t) (full_test (a.regs 9) (top + 16) less))
      (alu_then (ins Addi 12 0 0 (pos 2)) 2 c.1.1.0 (clear (suc (suc a.at)) (omega arith) (omega arith)) k0 k0 (ap (λ x. Some x) v12) (omega arith) (omega arith)
      (jump_then (p + 3) full (omega arith) z reach c.1.1.1.0 c.1.1.1.1.0 (clear (suc (suc (suc a.at))) (omega arith) (omega arith)) (clear (suc (suc (suc (suc a.at)))) (omega arith) (omega arith)) (λ u.
      finish {Goal = λ b. (b.at ≡ full) × (b.regs 12 ≡ 2) × SameOutside a b} (refl, refl, record { input = refl; out = refl; err = refl; cuts = refl }))))))
