-- The length of a string, and one of its characters.
use Rattle.std.proofs.Common.{◌≡◌, ◌≢◌, ℕ, suc, ◌+◌, ◌-◌, ◌*◌, ◌/◌, ◌%◌, ◌^◌, ◌<◌, ◌≤◌, pos, negsuc, List, [], ◌∷◌, length, get_or, Some, true, false, arith, refl, sym, ap, ◌∙◌, subst, ⊎_elim, inl, inr}
use Rattle.std.specs.Prelude.{nat_lt}
use Rattle.std.specs.Int.{w8, w32, w64, from_le_bytes, to_le_bytes}
use Rattle.std.proofs.lemmas.Bool.{cases_lt}
use Rattle.std.proofs.lemmas.Bool.Decides.{nat_tests}
use Rattle.rv_isa.specs.declared.table.Op.TheVariants.{Addi, Slli, Add, Bltu, Lbu, Lwu}
use Rattle.rv_isa.specs.Word.{ins}
use Rattle.rv_machine.specs.Step.{wrapped}
use Rattle.simulation.proofs.Heaps.{with_other}
use Rattle.rv_run.specs.Seen.{listed_from}
use Rattle.rv_acts.specs.Emitted.{Emitted, base, IsLaid, CanRead}
use Rattle.rv_acts.specs.Fine.{IsKnown, AllKnown, with_value, Fine}
use Rattle.rv_acts.specs.Act.{put}
use Rattle.rv_pieces.specs.Stand.{Stands}
use Rattle.rv_pieces.specs.Pair.{Reaches}
use Rattle.rv_pieces.specs.Route.{Trips}
use Rattle.rv_pieces.proofs.Standing.{zero_known, stands_at, stands_within}
use Rattle.rv_pieces.proofs.Then.{finish, alu_then, load_then, falls_then, takes_then, leaps_then}
use Rattle.rv_pieces.proofs.Saving.{jump_then}
use Rattle.std.proofs.lemmas.Int.{ints}
use Rattle.rv_isa.specs.declared.table.Op.TheVariants.{Srai}
use Rattle.std.specs.Prelude.{ℤ}
use Rattle.rv_machine.specs.Step.{as_signed, shifted_right}
use Rattle.rv_acts.specs.Emitted.{IsQuiet}
use Rattle.routine_laws.specs.Places.{IsNear, IsClear}
use Rattle.routine_laws.specs.Strings.{string_words}
use Rattle.routine_laws.specs.Print.{Telling}
use Rattle.routine_laws.specs.Index.{size_code, sub_code, Sized, Indexed, OutOfRange}
use Rattle.routine_laws.proofs.Strings.{laid_low, half_word}

-- a shift by one keeps the sign
shift_low : (v : ℕ) → v < 9223372036854775808 → shifted_right v 1 ≡ v / 2
shift_low v l =
    let e : as_signed v ≡ pos v = omega (arith, ints) in
    ap (λ (z : ℤ). wrapped (Rattle.std.specs.Int.int_shr z 1)) e ∙ omega (arith, ints)

shift_high : (v : ℕ) → 9223372036854775808 ≤ v → v < 2 ^ 64 → shifted_right v 1 ≡ v / 2 + 9223372036854775808
shift_high v l h =
    let t : nat_lt v 9223372036854775808 ≡ false = grind (arith, nat_tests) in
    let e : as_signed v ≡ negsuc (2 ^ 64 - suc v) = rw t refl in
    ap (λ (z : ℤ). wrapped (Rattle.std.specs.Int.int_shr z 1)) e ∙ omega (arith, ints)

-- ---- a string that is at hand

module _ (I : Emitted) (laid : IsLaid I) (near : IsNear I) (bs : List ℕ) (x top ret p : ℕ) (a : Fine) (s : Telling I bs x top ret p a) where
  pub text_high : x + 8 + 8 * string_words (length bs) < 2147545088
  text_high = ⊎_elim
      (λ (q : (I.place ≤ x) × (x + 8 + 8 * string_words (length bs) ≤ I.place + length I.literals)). let a = laid.above in let n = near.near in let c = q.1 in omega arith)
      (λ (q : (I.entries.arena ≤ x) × (x + 8 + 8 * string_words (length bs) ≤ top)). let e = s.high in let n = near.near in let b = q.1 in omega arith)
      s.text.place

  pub text_reads : (k n : ℕ) → k + n ≤ 8 + 8 * string_words (length bs) → CanRead I (x + k) n
  text_reads k n l = ⊎_elim
      (λ (q : (I.place ≤ x) × (x + 8 + 8 * string_words (length bs) ≤ I.place + length I.literals)). let b = q.0 in let c = q.1 in inl (omega arith, omega arith))
      (λ (q : (I.entries.arena ≤ x) × (x + 8 + 8 * string_words (length bs) ≤ top)). let e = s.high in let a = q.0 in let b = q.1 in inr (omega arith, omega arith))
      s.text.place

  words_enough : (n : ℕ) → n ≤ 8 * string_words n
  words_enough n = omega arith

  pub length_low : length bs < 2147545088
  length_low = let h = text_high in let w = words_enough (length bs) in omega arith

  pub length_here : AllKnown a.byte (x + 4) 4 × (from_le_bytes w32 (listed_from a.byte (x + 4) 4) ≡ length bs)
  length_here = let l = length_low in half_word a.byte x 2 (length bs) s.text.here.header (omega arith) (omega arith)

  -- the byte at an index
  pub byte_here : (i : ℕ) → i < length bs → (a.byte (x + (8 + i)) ≡ get_or bs i 0) × (get_or bs i 0 < 256)
  byte_here i l = let w = words_enough (length bs) in let q : x + (8 + i) ≡ x + 8 + i = omega arith in (ap a.byte q ∙ s.text.here.bytes i (omega arith), s.text.small i)

  pub sizes : Stands I.code p size_code → IsClear I p 4 → ret < length I.code → Trips I (IsQuiet I) (Sized bs ret a) 4 a
  sizes code clear rc =
      let at = s.at in
      let c = stands_at I.code p a.at size_code (sym at) code in
      let hi = text_high in
      let ln = length_low in
      let len = length_here in
      let low = laid_low I laid in
      let lh = laid.high in
      let x5 = s.x5 in
      let x31 = s.x31 in
      let k5 : IsKnown (a.regs 5) = omega arith in
      let k0 = zero_known (a.regs 0) s.zero_reg in
      let ad : (a.regs 5 + wrapped (pos 4)) % 2 ^ 64 ≡ x + 4 = omega arith in
      let al : (x + 4) % 4 ≡ 0 = let z = s.text.aligned in omega arith in
      let v1 : length bs * 2 % 2 ^ 64 ≡ 2 * length bs = omega arith in
      let v2 : (2 * length bs + 1) % 2 ^ 64 ≡ 2 * length bs + 1 = omega arith in
      let k1 : IsKnown (length bs) = omega arith in
      let k2 : IsKnown (2 * length bs) = omega arith in
      let k31 : IsKnown (a.regs 31) = omega arith in
      let to31 : (a.regs 31 + wrapped (pos 0)) % 2 ^ 64 ≡ base + 4 * ret = omega arith in
      load_then (ins Lwu 5 5 0 (pos 4)) w32 (x + 4) (length bs) c.0 (clear a.at (omega arith) (omega arith)) k5 refl ad al (text_reads 4 4 (omega arith)) len.0 len.1 (omega arith) (omega arith)
      (alu_then (ins Slli 5 5 0 (pos 1)) (2 * length bs) c.1.0 (clear (suc a.at) (omega arith) (omega arith)) k1 k0 (ap (λ x. Some x) v1) (omega arith) (omega arith)
      (alu_then (ins Addi 5 5 0 (pos 1)) (2 * length bs + 1) c.1.1.0 (clear (suc (suc a.at)) (omega arith) (omega arith)) k2 k0 (ap (λ x. Some x) v2) (omega arith) (omega arith)
      (leaps_then 31 ret (pos 0) c.1.1.1.0 (clear (suc (suc (suc a.at))) (omega arith) (omega arith)) k31 to31
      (finish (record {
        at = refl;
        x5 = refl;
        same = λ r n5. with_other (with_value (with_value a.regs 5 (length bs)) 5 (2 * length bs)) 5 (2 * length bs + 1) r n5 ∙ with_other (with_value a.regs 5 (length bs)) 5 (2 * length bs) r n5 ∙ with_other a.regs 5 (length bs) r n5;
        bytes = refl;
        outside = record { input = refl; out = refl; err = refl; cuts = refl };
      })))))

  module _ (subscript : ℕ) (code : Stands I.code p (sub_code p subscript)) (clear : IsClear I p 10) where
    -- the index as a number, and the length
    pub measured : {Goal : Fine → Type 0} (most v w : ℕ) → a.regs 6 ≡ v → v < 2 ^ 64 → shifted_right v 1 ≡ w → Trips I (IsQuiet I) Goal most (put 7 (length bs) (put 6 w a)) → Trips I (IsQuiet I) Goal (suc (suc most)) a
    measured {Goal} most v w e l sh go_on =
        let at = s.at in
        let c = stands_at I.code p a.at (sub_code p subscript) (sym at) code in
        let hi = text_high in
        let len = length_here in
        let x5 = s.x5 in
        let k5 : IsKnown (a.regs 5) = omega arith in
        let k0 = zero_known (a.regs 0) s.zero_reg in
        let k6 : IsKnown (a.regs 6) = omega arith in
        let ad : (a.regs 5 + wrapped (pos 4)) % 2 ^ 64 ≡ x + 4 = omega arith in
        let al : (x + 4) % 4 ≡ 0 = let z = s.text.aligned in omega arith in
        alu_then (ins Srai 6 6 0 (pos 1)) w c.0 (clear a.at (omega arith) (omega arith)) k6 k0 (ap (λ x. Some x) (ap (λ v. shifted_right v 1) e ∙ sh)) (omega arith) (omega arith)
        (load_then (ins Lwu 7 5 0 (pos 4)) w32 (x + 4) (length bs) c.1.0 (clear (suc a.at) (omega arith) (omega arith)) k5 refl ad al (text_reads 4 4 (omega arith)) len.0 len.1 (omega arith) (omega arith) go_on)

    is_below : (i n : ℕ) → i < n → nat_lt i n ≡ true
    is_below i n l = grind (arith, nat_tests)

    not_below : (i n : ℕ) → n ≤ i → nat_lt i n ≡ false
    not_below i n l = grind (arith, nat_tests)

    pub indexes : (i : ℕ) → a.regs 6 ≡ 2 * i + 1 → i < length bs → ret < length I.code → Trips I (IsQuiet I) (Indexed bs i ret a) 8 a
    indexes i e l rc =
        let at = s.at in
        let c = stands_at I.code p a.at (sub_code p subscript) (sym at) code in
        let hi = text_high in
        let ln = length_low in
        let low = laid_low I laid in
        let lh = laid.high in
        let x5 = s.x5 in
        let x31 = s.x31 in
        let b = byte_here i l in
        let v = get_or bs i 0 in
        let vb = b.1 in
        let w = words_enough (length bs) in
        let half : (2 * i + 1) / 2 ≡ i = omega arith in
        let sh : shifted_right (2 * i + 1) 1 ≡ i = shift_low (2 * i + 1) (omega arith) ∙ half in
        let ki : IsKnown i = omega arith in
        let kn : IsKnown (length bs) = omega arith in
        let k5 : IsKnown (a.regs 5) = omega arith in
        let k0 = zero_known (a.regs 0) s.zero_reg in
        let onto : (base + 4 * suc (suc a.at) + wrapped (pos 12)) % 2 ^ 64 ≡ base + 4 * suc (suc (suc (suc (suc a.at)))) = let z = stands_within I.code p (sub_code p subscript) (omega arith) code in omega arith in
        let v1 : (a.regs 5 + i) % 2 ^ 64 ≡ x + i = omega arith in
        let k1 : IsKnown (x + i) = omega arith in
        let ad : (x + i + wrapped (pos 8)) % 2 ^ 64 ≡ x + (8 + i) = omega arith in
        let al : (x + (8 + i)) % 1 ≡ 0 = omega arith in
        let known : AllKnown a.byte (x + (8 + i)) 1 = λ j q. let z : x + (8 + i) + j ≡ x + (8 + i) = omega arith in subst (λ y. a.byte y < 256) (sym z) (subst (λ v. v < 256) (sym b.0) b.1) in
        let read : from_le_bytes w8 (listed_from a.byte (x + (8 + i)) 1) ≡ v = one_byte (a.byte (x + (8 + i))) v b.0 vb in
        let v2 : v * 2 % 2 ^ 64 ≡ 2 * v = omega arith in
        let v3 : (2 * v + 1) % 2 ^ 64 ≡ 2 * v + 1 = omega arith in
        let kv : IsKnown v = omega arith in
        let kw : IsKnown (2 * v) = omega arith in
        let k31 : IsKnown (a.regs 31) = omega arith in
        let to31 : (a.regs 31 + wrapped (pos 0)) % 2 ^ 64 ≡ base + 4 * ret = omega arith in
        measured 6 (2 * i + 1) i e (omega arith) sh
        (takes_then (ins Bltu 0 6 7 (pos 12)) (suc (suc (suc (suc (suc a.at))))) c.1.1.0 (clear (suc (suc a.at)) (omega arith) (omega arith)) ki kn (ap (λ t. Some t) (is_below i (length bs) l)) onto
        (alu_then (ins Add 5 5 6 (pos 0)) (x + i) c.1.1.1.1.1.0 (clear (suc (suc (suc (suc (suc a.at))))) (omega arith) (omega arith)) k5 ki (ap (λ x. Some x) v1) (omega arith) (omega arith)
        (load_then (ins Lbu 5 5 0 (pos 8)) w8 (x + (8 + i)) v c.1.1.1.1.1.1.0 (clear (suc (suc (suc (suc (suc (suc a.at)))))) (omega arith) (omega arith)) k1 refl ad al (text_reads (8 + i) 1 (omega arith)) known read (omega arith) (omega arith)
        (alu_then (ins Slli 5 5 0 (pos 1)) (2 * v) c.1.1.1.1.1.1.1.0 (clear (suc (suc (suc (suc (suc (suc (suc a.at))))))) (omega arith) (omega arith)) kv k0 (ap (λ x. Some x) v2) (omega arith) (omega arith)
        (alu_then (ins Addi 5 5 0 (pos 1)) (2 * v + 1) c.1.1.1.1.1.1.1.1.0 (clear (suc (suc (suc (suc (suc (suc (suc (suc a.at)))))))) (omega arith) (omega arith)) kw k0 (ap (λ x. Some x) v3) (omega arith) (omega arith)
        (leaps_then 31 ret (pos 0) c.1.1.1.1.1.1.1.1.1.0 (clear (suc (suc (suc (suc (suc (suc (suc (suc (suc a.at))))))))) (omega arith) (omega arith)) k31 to31
        (finish (record {
          at = refl;
          x5 = refl;
          same = λ r n5 n6 n7. indexed_same a.regs i (length bs) (x + i) v (2 * v) (2 * v + 1) r n5 n6 n7;
          bytes = refl;
          outside = record { input = refl; out = refl; err = refl; cuts = refl };
        }))))))))
      where
        one_byte : (m v : ℕ) → m ≡ v → v < 256 → from_le_bytes w8 (m ∷ []) ≡ v
        one_byte m v e l = omega arith

        indexed_same : (g : ℕ → ℕ) (u n y v w z r : ℕ) → r ≢ 5 → r ≢ 6 → r ≢ 7 → with_value (with_value (with_value (with_value (with_value (with_value g 6 u) 7 n) 5 y) 5 v) 5 w) 5 z r ≡ g r
        indexed_same g u n y v w z r n5 n6 n7 = with_other (with_value (with_value (with_value (with_value (with_value g 6 u) 7 n) 5 y) 5 v) 5 w) 5 z r n5 ∙ with_other (with_value (with_value (with_value (with_value g 6 u) 7 n) 5 y) 5 v) 5 w r n5 ∙ with_other (with_value (with_value (with_value g 6 u) 7 n) 5 y) 5 v r n5 ∙ with_other (with_value (with_value g 6 u) 7 n) 5 y r n5 ∙ with_other (with_value g 6 u) 7 n r n7 ∙ with_other g 6 u r n6

    pub raises : (v : ℕ) → a.regs 6 ≡ v → v < 2 ^ 64 → length bs ≤ v / 2 → subscript < length I.code → Trips I (IsQuiet I) (OutOfRange subscript a) 5 a
    raises v e l out sc = ⊎_elim
        (λ (q : v < 9223372036854775808). gone (v / 2) (shift_low v q) out (omega arith))
        (λ (q : 9223372036854775808 ≤ v). gone (v / 2 + 9223372036854775808) (shift_high v q l) (omega arith) (omega arith))
        (cases_lt v 9223372036854775808)
      where
        gone : (w : ℕ) → shifted_right v 1 ≡ w → length bs ≤ w → w < 2 ^ 64 → Trips I (IsQuiet I) (OutOfRange subscript a) 5 a
        gone w sh out' kw =
            let at = s.at in
            let c = stands_at I.code p a.at (sub_code p subscript) (sym at) code in
            let z = stands_within I.code p (sub_code p subscript) (omega arith) code in
            let t = laid.text in
            let ab = laid.above in
            let lh = laid.high in
            let nr = near.near in
            let ln = length_low in
            let kn : IsKnown (length bs) = omega arith in
            let reach : Reaches (p + 3) (base + 4 * subscript) = record { from = omega arith; to = omega arith; back = omega arith; on = omega arith } in
            measured 3 v w e l sh
            (falls_then (ins Bltu 0 6 7 (pos 12)) c.1.1.0 (clear (suc (suc a.at)) (omega arith) (omega arith)) kw kn (ap (λ t. Some t) (not_below w (length bs) out'))
            (jump_then (p + 3) subscript (omega arith) s.zero_reg reach c.1.1.1.0 c.1.1.1.1.0 (clear (suc (suc (suc a.at))) (omega arith) (omega arith)) (clear (suc (suc (suc (suc a.at)))) (omega arith) (omega arith)) (λ u.
            finish (record {
              at = refl;
              same = λ r n6 n7 n31. with_other (with_value (with_value a.regs 6 w) 7 (length bs)) 31 u r n31 ∙ with_other (with_value a.regs 6 w) 7 (length bs) r n7 ∙ with_other a.regs 6 w r n6;
              bytes = refl;
              outside = record { input = refl; out = refl; err = refl; cuts = refl };
            }))))
