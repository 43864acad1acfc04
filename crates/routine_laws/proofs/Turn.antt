-- A turn of equality.
use Rattle.std.proofs.Common.{◌≡◌, ◌≢◌, ℕ, zero, suc, ◌+◌, ◌-◌, ◌*◌, ◌%◌, ◌^◌, ◌<◌, ◌≤◌, pos, [], ◌∷◌, length, Some, true, false, not, ◌==◌, arith, refl, sym, ap, ◌∙◌, subst, ⊎_elim, ◌⊎◌, inl, inr}
use Rattle.std.specs.Prelude.{bit_and}
use Rattle.std.specs.Int.{w32, w64, from_le_bytes}
use Rattle.std.proofs.lemmas.Bool.Decides.{nat_tests}
use Rattle.rv_isa.specs.declared.table.Op.TheVariants.{Addi, Andi, Slli, Add, Beq, Bne, Lwu, Lw, Ld}
use Rattle.rv_isa.specs.Word.{ins}
use Rattle.rv_machine.specs.Step.{wrapped}
use Rattle.simulation.proofs.Heaps.{with_other}
use Rattle.rv_run.specs.Seen.{listed_from}
use Rattle.rv_acts.specs.Emitted.{Emitted, base, IsLaid, CanRead}
use Rattle.rv_acts.specs.Fine.{IsKnown, AllKnown, with_value, Fine}
use Rattle.rv_acts.specs.Trip.{Steady, WordIs}
use Rattle.rv_pieces.specs.Stand.{Stands}
use Rattle.rv_pieces.specs.Route.{Trips, Routes}
use Rattle.rv_pieces.proofs.Standing.{zero_known, stands_at}
use Rattle.rv_pieces.proofs.Then.{finish, alu_then, load_then, falls_then, takes_then, leaps_then}
use Rattle.rv_pieces.proofs.Routing.{trip_first}
use Rattle.routine_laws.specs.Places.{end_at, IsNear, IsClear}
use Rattle.routine_laws.specs.Strings.{SameOutside}
use Rattle.routine_laws.proofs.Strings.{laid_low, half_word}
use Rattle.routine_laws.proofs.CopyBytes.{outside_refl, outside_then}
use lib.Bits.{and_mask, or_mod, or_add_and}
use Rattle.std.specs.Prelude.{bit_or}
use Rattle.rv_isa.specs.declared.table.Op.TheVariants.{Or}
use Rattle.rv_machine.specs.Step.{extended}
use Rattle.rv_acts.specs.Emitted.{IsQuiet}
use Rattle.routine_laws.specs.Equal.{q_words, q_next, e_turn, e_tuples, TurnCode, PairAt, Fields, Delivered, Empty, Two, chain, Turned, TurnFull}
use Rattle.routine_laws.proofs.Pairs.{PairsCode, Pushing, Pushed, PairFull, pairs_put}

pub record Parts (I : Emitted) (q full : ℕ) : Type 0 where
  pub turn : Stands I.code q e_turn
  pub tuples : Stands I.code (q + 31) e_tuples
  pub pairs : PairsCode I (q + 35) full

even_or : (u v : ℕ) → u % 8 ≡ 0 → v % 8 ≡ 0 → bit_and (bit_or u v) 1 ≡ 0
even_or u v e f =
    let a : bit_and (bit_or u v) 1 ≡ bit_or u v % 2 = and_mask (bit_or u v) 1 in
    let b : bit_or u v % 2 ≡ bit_or (u % 2) (v % 2) = or_mod u v 1 in
    let g : u % 2 ≡ 0 = omega arith in
    let h : v % 2 ≡ 0 = omega arith in
    a ∙ b ∙ rw (g, h) refl

module _ (I : Emitted) (laid : IsLaid I) (near : IsNear I) (Q : ℕ → Type 0) (q full : ℕ) (code : Parts I q full) (clear : (k : ℕ) → q ≤ k → k < q + 56 → Q k) (in_text : q + 56 ≤ length I.code) (full_in : full < length I.code) where
  pc_low : base + 4 * (q + 56) ≤ I.entries.arena - 8192
  pc_low = let a = laid.text in let b = laid.above in omega arith

  -- ---- no pair is left: on at the continuation, with the truth value

  is_off : (v z : ℕ) → v ≡ 0 → z ≡ 0 → not (v == z) ≡ false
  is_off v z e f = grind (arith, nat_tests)

  is_on : (v z : ℕ) → v ≢ 0 → z ≡ 0 → not (v == z) ≡ true
  is_on v z e f = grind (arith, nat_tests)

  pub turn_empty : (ret : ℕ) (a : Fine) → a.at ≡ q → a.regs 0 ≡ 0 → a.regs 11 ≡ 0 → a.regs 10 < 2 ^ 62 → a.regs 12 < 2 ^ 62 → a.regs 12 % 8 ≡ 0 → CanRead I (a.regs 12 + 8) 8 → WordIs a.byte (a.regs 12 + 8) (base + 4 * ret) → ret < length I.code → Trips I Q (Delivered ret a) 5 a
  turn_empty ret a at z e11 l10 l12 al reads w rc =
      let st = stands_at I.code q a.at e_turn (sym at) code.turn in
      let lo = (laid_low I laid) in
      let hi = laid.high in
      let k0 = zero_known (a.regs 0) z in
      let k11 = zero_known (a.regs 11) e11 in
      let k10 : IsKnown (a.regs 10) = omega arith in
      let k12 : IsKnown (a.regs 12) = omega arith in
      let v1 : (a.regs 10 + 0) % 2 ^ 64 ≡ a.regs 10 = omega arith in
      let v2 : (a.regs 12 + 0) % 2 ^ 64 ≡ a.regs 12 = omega arith in
      let at3 : (a.regs 12 + wrapped (pos 8)) % 2 ^ 64 ≡ a.regs 12 + 8 = omega arith in
      let al3 : (a.regs 12 + 8) % 8 ≡ 0 = omega arith in
      let k31 : IsKnown (base + 4 * ret) = omega arith in
      let to31 : (base + 4 * ret + wrapped (pos 0)) % 2 ^ 64 ≡ base + 4 * ret = omega arith in
      falls_then (ins Bne 0 11 0 (pos 20)) st.0 (clear a.at (omega arith) (omega arith)) k11 k0 (ap (λ t. Some t) (is_off (a.regs 11) (a.regs 0) e11 z))
      (alu_then (ins Addi 11 10 0 (pos 0)) (a.regs 10) st.1.0 (clear (suc a.at) (omega arith) (omega arith)) k10 k0 (ap (λ x. Some x) v1) (omega arith) (omega arith)
      (alu_then (ins Addi 10 12 0 (pos 0)) (a.regs 12) st.1.1.0 (clear (suc (suc a.at)) (omega arith) (omega arith)) k12 k0 (ap (λ x. Some x) v2) (omega arith) (omega arith)
      (load_then (ins Ld 31 10 0 (pos 8)) w64 (a.regs 12 + 8) (base + 4 * ret) st.1.1.1.0 (clear (suc (suc (suc a.at))) (omega arith) (omega arith)) k12 refl at3 al3 reads w.known w.is (omega arith) (omega arith)
      (leaps_then 31 ret (pos 0) st.1.1.1.1.0 (clear (suc (suc (suc (suc a.at)))) (omega arith) (omega arith)) k31 to31
      (finish (record { at = refl; r10 = refl; r11 = refl; bytes = refl; outside = record { input = refl; out = refl; err = refl; cuts = refl } }))))))

  -- ---- two tuples

  -- the fields of both are at hand
  pub record Opened (u v n many : ℕ) (a b : Fine) : Type 0 where
    pub at : b.at ≡ q + 35
    pub r5 : b.regs 5 ≡ u + 8 * many
    pub r6 : b.regs 6 ≡ v + 8 * many
    pub r7 : b.regs 7 ≡ 8 * many
    pub r9 : b.regs 9 ≡ a.regs 9
    pub r11 : b.regs 11 ≡ n
    pub same : (r : ℕ) → r ≢ 5 → r ≢ 6 → r ≢ 7 → r ≢ 11 → r ≢ 31 → b.regs r ≡ a.regs r
    pub bytes : b.byte ≡ a.byte
    pub outside : SameOutside a b

  opened_same : (g : ℕ → ℕ) (u v n o many r : ℕ) → r ≢ 5 → r ≢ 6 → r ≢ 7 → r ≢ 11 → r ≢ 31 → with_value (with_value (with_value (with_value (with_value (with_value (with_value (with_value (with_value (with_value (with_value g 5 u) 6 v) 11 n) 31 o) 31 0) 31 0) 31 0) 7 many) 7 (8 * many)) 5 (u + 8 * many)) 6 (v + 8 * many) r ≡ g r
  opened_same g u v n o many r n5 n6 n7 n11 n31 =
      let g1 = with_value g 5 u in
      let g2 = with_value g1 6 v in
      let g3 = with_value g2 11 n in
      let g4 = with_value g3 31 o in
      let g5 = with_value g4 31 0 in
      let g6 = with_value g5 31 0 in
      let g7 = with_value g6 31 0 in
      let g8 = with_value g7 7 many in
      let g9 = with_value g8 7 (8 * many) in
      let g10 = with_value g9 5 (u + 8 * many) in
      with_other g10 6 (v + 8 * many) r n6 ∙ with_other g9 5 (u + 8 * many) r n5 ∙ with_other g8 7 (8 * many) r n7 ∙ with_other g7 7 many r n7 ∙ with_other g6 31 0 r n31 ∙ with_other g5 31 0 r n31 ∙ with_other g4 31 0 r n31 ∙ with_other g3 31 o r n31 ∙ with_other g2 11 n r n11 ∙ with_other g1 6 v r n6 ∙ with_other g 5 u r n5

  -- its header's lower half is that of a tuple
  tuple_low : (m : ℕ → ℕ) (x n : ℕ) → WordIs m x (0 + 4294967296 * n) → AllKnown m x 4 × (extended true w32 (from_le_bytes w32 (listed_from m x 4)) ≡ 0)
  tuple_low m x n w =
      let b0 = subst (λ y. m y < 256) (let z : x + 0 ≡ x = omega arith in z) (w.known 0 (omega arith)) in
      let b1 = subst (λ y. m y < 256) (let z : x + 1 ≡ suc x = omega arith in z) (w.known 1 (omega arith)) in
      let b2 = subst (λ y. m y < 256) (let z : x + 2 ≡ suc (suc x) = omega arith in z) (w.known 2 (omega arith)) in
      let b3 = subst (λ y. m y < 256) (let z : x + 3 ≡ suc (suc (suc x)) = omega arith in z) (w.known 3 (omega arith)) in
      let e = w.is in
      let v : from_le_bytes w32 (listed_from m x 4) ≡ 0 = omega arith in
      (λ i l. w.known i (omega arith), ap (extended true w32) v)

  pub opened : (y u v n many top : ℕ) (f g : ℕ → ℕ) (a : Fine) → Two I q y u v n many top f g a → Trips I Q (Opened u v n many a) 14 a
  opened y u v n many top f g a s =
      let at = s.at in
      let st = stands_at I.code q a.at e_turn (sym at) code.turn in
      let tu = code.tuples in
      let nr = near.near in
      let na = near.above in
      let x11 = s.x11 in
      let yl = s.y_low in
      let yh = s.y_high in
      let hi = s.high in
      let ym = s.y_at in
      let some = s.some in
      let fu = field_high u many f top a s.first s.high in
      let fv = field_high v many g top a s.second s.high in
      let um = s.first.aligned in
      let vm = s.second.aligned in
      let k0 = zero_known (a.regs 0) s.zero_reg in
      let k11 : IsKnown (a.regs 11) = omega arith in
      let not0 : a.regs 11 ≢ 0 = λ z. absurd (omega arith) in
      let onto : (base + 4 * a.at + wrapped (pos 20)) % 2 ^ 64 ≡ base + 4 * (q + 5) = go5 a.at at pc_low (omega arith) in
      let a8 : (a.regs 11 + wrapped (pos 8)) % 2 ^ 64 ≡ y + 8 = omega arith in
      let a16 : (a.regs 11 + wrapped (pos 16)) % 2 ^ 64 ≡ y + 16 = omega arith in
      let a24 : (a.regs 11 + wrapped (pos 24)) % 2 ^ 64 ≡ y + 24 = omega arith in
      let m8 : (y + 8) % 8 ≡ 0 = omega arith in
      let m16 : (y + 16) % 8 ≡ 0 = omega arith in
      let m24 : (y + 24) % 8 ≡ 0 = omega arith in
      let c8 : CanRead I (y + 8) 8 = inr (omega arith, omega arith) in
      let c16 : CanRead I (y + 16) 8 = inr (omega arith, omega arith) in
      let c24 : CanRead I (y + 24) 8 = inr (omega arith, omega arith) in
      let ku : IsKnown u = omega arith in
      let kv : IsKnown v = omega arith in
      let ko : IsKnown (bit_or u v) = let z = or_add_and u v in omega arith in
      let kz : IsKnown 0 = omega arith in
      let km : IsKnown many = omega arith in
      let k8m : IsKnown (8 * many) = omega arith in
      let tl = tuple_low a.byte u many s.header in
      let hw = half_word a.byte u 0 many s.header (omega arith) (omega arith) in
      let u0 : (u + wrapped (pos 0)) % 2 ^ 64 ≡ u = omega arith in
      let u4 : (u + wrapped (pos 4)) % 2 ^ 64 ≡ u + 4 = omega arith in
      let um4 : u % 4 ≡ 0 = omega arith in
      let um44 : (u + 4) % 4 ≡ 0 = omega arith in
      let cu = field_reads u many f top a s.first s.high 0 4 (omega arith) in
      let cu0 : CanRead I u 4 = subst (λ x. CanRead I x 4) (let z : u + 0 ≡ u = omega arith in z) cu in
      let cu4 = field_reads u many f top a s.first s.high 4 4 (omega arith) in
      let onto2 : (base + 4 * suc (suc (suc (suc (suc (suc (suc (suc (q + 5)))))))) + wrapped (pos 72)) % 2 ^ 64 ≡ base + 4 * (q + 31) = go31 q pc_low (omega arith) in
      let v3 : many * 2 ^ 3 % 2 ^ 64 ≡ 8 * many = omega arith in
      let v5 : (u + 8 * many) % 2 ^ 64 ≡ u + 8 * many = omega arith in
      let v6 : (v + 8 * many) % 2 ^ 64 ≡ v + 8 * many = omega arith in
      takes_then (ins Bne 0 11 0 (pos 20)) (q + 5) st.0 (clear a.at (omega arith) (omega arith)) k11 k0 (ap (λ t. Some t) (is_on (a.regs 11) (a.regs 0) not0 s.zero_reg)) onto
      (load_then (ins Ld 5 11 0 (pos 8)) w64 (y + 8) u (five 0).0 (cl 5 (q + 5) (omega arith) (omega arith)) k11 refl a8 m8 c8 s.pair.left.known s.pair.left.is (omega arith) (omega arith)
      (load_then (ins Ld 6 11 0 (pos 16)) w64 (y + 16) v (five 0).1.0 (cl 6 (suc (q + 5)) (omega arith) (omega arith)) k11 refl a16 m16 c16 s.pair.right.known s.pair.right.is (omega arith) (omega arith)
      (load_then (ins Ld 11 11 0 (pos 24)) w64 (y + 24) n (five 0).1.1.0 (cl 7 (suc (suc (q + 5))) (omega arith) (omega arith)) k11 refl a24 m24 c24 s.pair.rest.known s.pair.rest.is (omega arith) (omega arith)
      (alu_then (ins Or 31 5 6 (pos 0)) (bit_or u v) (five 0).1.1.1.0 (cl 8 (suc (suc (suc (q + 5)))) (omega arith) (omega arith)) ku kv refl (omega arith) (omega arith)
      (alu_then (ins Andi 31 31 0 (pos 1)) 0 (five 0).1.1.1.1.0 (cl 9 (suc (suc (suc (suc (q + 5))))) (omega arith) (omega arith)) ko k0 (ap (λ x. Some x) (even_or u v um vm)) (omega arith) (omega arith)
      (falls_then (ins Bne 0 31 0 (pos 56)) (five 0).1.1.1.1.1.0 (cl 10 (suc (suc (suc (suc (suc (q + 5)))))) (omega arith) (omega arith)) kz k0 (ap (λ t. Some t) (is_off 0 (a.regs 0) refl s.zero_reg))
      (load_then (ins Lw 31 5 0 (pos 0)) w32 u 0 (five 0).1.1.1.1.1.1.0 (cl 11 (suc (suc (suc (suc (suc (suc (q + 5))))))) (omega arith) (omega arith)) ku refl u0 um4 cu0 tl.0 tl.1 (omega arith) (omega arith)
      (alu_then (ins Andi 31 31 0 (pos 7)) 0 (five 0).1.1.1.1.1.1.1.0 (cl 12 (suc (suc (suc (suc (suc (suc (suc (q + 5)))))))) (omega arith) (omega arith)) kz k0 refl (omega arith) (omega arith)
      (takes_then (ins Beq 0 31 0 (pos 72)) (q + 31) (five 0).1.1.1.1.1.1.1.1.0 (cl 13 (suc (suc (suc (suc (suc (suc (suc (suc (q + 5))))))))) (omega arith) (omega arith)) kz k0 (ap (λ t. Some t) (is_zero (a.regs 0) s.zero_reg)) onto2
      (load_then (ins Lwu 7 5 0 (pos 4)) w32 (u + 4) many tu.0 (cl 31 (q + 31) (omega arith) (omega arith)) ku refl u4 um44 cu4 hw.0 hw.1 (omega arith) (omega arith)
      (alu_then (ins Slli 7 7 0 (pos 3)) (8 * many) tu.1.0 (cl 32 (suc (q + 31)) (omega arith) (omega arith)) km k0 (ap (λ x. Some x) v3) (omega arith) (omega arith)
      (alu_then (ins Add 5 5 7 (pos 0)) (u + 8 * many) tu.1.1.0 (cl 33 (suc (suc (q + 31))) (omega arith) (omega arith)) ku k8m (ap (λ x. Some x) v5) (omega arith) (omega arith)
      (alu_then (ins Add 6 6 7 (pos 0)) (v + 8 * many) tu.1.1.1.0 (cl 34 (suc (suc (suc (q + 31)))) (omega arith) (omega arith)) kv k8m (ap (λ x. Some x) v6) (omega arith) (omega arith)
      (finish (record { at = four_on q; r5 = refl; r6 = refl; r7 = refl; r9 = refl; r11 = refl; same = λ r n5 n6 n7 n11 n31. opened_same a.regs u v n (bit_or u v) many r n5 n6 n7 n11 n31; bytes = refl; outside = record { input = refl; out = refl; err = refl; cuts = refl } })))))))))))))))
    where
      cl : (j m : ℕ) → m ≡ q + j → j < 56 → Q m
      cl j m e l = clear m (omega arith) (omega arith)

      go5 : (n : ℕ) → n ≡ q → base + 4 * (q + 56) ≤ I.entries.arena - 8192 → I.entries.arena < 2147545088 → (base + 4 * n + wrapped (pos 20)) % 2 ^ 64 ≡ base + 4 * (q + 5)
      go5 n e l h = omega arith

      go31 : (n : ℕ) → base + 4 * (n + 56) ≤ I.entries.arena - 8192 → I.entries.arena < 2147545088 → (base + 4 * suc (suc (suc (suc (suc (suc (suc (suc (n + 5)))))))) + wrapped (pos 72)) % 2 ^ 64 ≡ base + 4 * (n + 31)
      go31 n l h = omega arith

      four_on : (n : ℕ) → suc (suc (suc (suc (n + 31)))) ≡ n + 35
      four_on n = omega arith

      is_zero : (z : ℕ) → z ≡ 0 → (0 == z) ≡ true
      is_zero z e = grind (arith, nat_tests)

      five : (d : ℕ) → Stands I.code (q + 5) (ins Ld 5 11 0 (pos 8) ∷ ins Ld 6 11 0 (pos 16) ∷ ins Ld 11 11 0 (pos 24) ∷ ins Or 31 5 6 (pos 0) ∷ ins Andi 31 31 0 (pos 1) ∷ ins Bne 0 31 0 (pos 56) ∷ ins Lw 31 5 0 (pos 0) ∷ ins Andi 31 31 0 (pos 7) ∷ ins Beq 0 31 0 (pos 72) ∷ [])
      five d = stands_at I.code (suc (suc (suc (suc (suc q))))) (q + 5) (ins Ld 5 11 0 (pos 8) ∷ ins Ld 6 11 0 (pos 16) ∷ ins Ld 11 11 0 (pos 24) ∷ ins Or 31 5 6 (pos 0) ∷ ins Andi 31 31 0 (pos 1) ∷ ins Bne 0 31 0 (pos 56) ∷ ins Lw 31 5 0 (pos 0) ∷ ins Andi 31 31 0 (pos 7) ∷ ins Beq 0 31 0 (pos 72) ∷ []) (omega arith) code.turn.1.1.1.1.1

      field_high : (x many : ℕ) (h : ℕ → ℕ) (top : ℕ) (a : Fine) → Fields I top a.byte x many h → top ≤ end_at I → x + 8 + 8 * many < 2147545088
      field_high x many h top a d e = ⊎_elim
          (λ (r : (I.place ≤ x) × (x + 8 + 8 * many ≤ I.place + length I.literals)). let b = laid.above in let n = near.near in let c = r.1 in omega arith)
          (λ (r : (I.entries.arena ≤ x) × (x + 8 + 8 * many ≤ top)). let n = near.near in let b = r.1 in omega arith)
          d.place

      field_reads : (x many : ℕ) (h : ℕ → ℕ) (top : ℕ) (a : Fine) → Fields I top a.byte x many h → top ≤ end_at I → (k n : ℕ) → k + n ≤ 8 + 8 * many → CanRead I (x + k) n
      field_reads x many h top a d e k n l = ⊎_elim
          (λ (r : (I.place ≤ x) × (x + 8 + 8 * many ≤ I.place + length I.literals)). let b = r.0 in let c = r.1 in inl (omega arith, omega arith))
          (λ (r : (I.entries.arena ≤ x) × (x + 8 + 8 * many ≤ top)). let b = r.0 in let c = r.1 in inr (omega arith, omega arith))
          d.place

  clear_pairs : (k : ℕ) → q + 35 ≤ k → k < q + 35 + 20 → Q k
  clear_pairs k l h = clear k (omega arith) (omega arith)

  in_pairs : q + 35 + 20 ≤ length I.code
  in_pairs = omega arith

  chain_is : (n top j : ℕ) → chain n top j ≡ chain n top j
  chain_is n top j = refl

  module _ (y u v n many top : ℕ) (f g : ℕ → ℕ) (a : Fine) (s : Two I q y u v n (suc many) top f g a) (b : Fine) (t : Steady I a b) (o : Opened u v n (suc many) a b) where
    first_here : Fields I top b.byte u (suc many) f
    first_here = subst (λ m. Fields I top m u (suc many) f) (sym o.bytes) s.first

    second_here : Fields I top b.byte v (suc many) g
    second_here = subst (λ m. Fields I top m v (suc many) g) (sym o.bytes) s.second

    abbrev Begun : ℕ → ℕ → ℕ → Fine → Type 0
    Begun i k at c = Pushing I laid near Q (q + 35) full code.pairs clear_pairs in_pairs full_in u v top (suc many) n f g b s.top_at s.low s.rest first_here second_here i k at c

    begun : Begun 0 (suc many) (q + 35) b
    begun = record {
      at_is = o.at;
      zero_reg = t.x0 ∙ s.zero_reg;
      r5 = o.r5;
      r6 = o.r6;
      r7 = o.r7;
      r8 = t.x8 ∙ s.x8 ∙ (let z : top ≡ top + 32 * 0 = omega arith in z);
      r9 = o.r9 ∙ s.x9;
      r11 = o.r11;
      room = let h = s.high in omega arith;
      pairs = λ j l. absurd (omega arith);
      low = λ x l. refl;
      same = λ r n5 n6 n7 n8 n11 n31. refl;
      outside = outside_refl b;
    }

    finished : (c : Fine) → Pushed I laid near Q (q + 35) full code.pairs clear_pairs in_pairs full_in u v top (suc many) n f g b s.top_at s.low s.rest first_here second_here c → Turned I q n (suc many) top f g a c ⊎ TurnFull I full top a c
    finished c (inl h) = inl (record {
      at = let e = h.at_is in omega arith;
      r8 = h.r8;
      r11 = h.r11;
      room = h.room;
      pairs = λ j l. each j (h.pairs j l);
      low = λ x l. h.low x l ∙ ap (λ m. m x) o.bytes;
      same = λ r n5 n6 n7 n8 n11 n31. h.same r n5 n6 n7 n8 n11 n31 ∙ o.same r n5 n6 n7 n11 n31;
      outside = outside_then a b c o.outside h.outside;
    })
      where
        each : (j : ℕ) → PairAt c.byte (top + 32 * j) (f (suc many - j)) (g (suc many - j)) (Rattle.routine_laws.proofs.Pairs.list_at I laid near Q (q + 35) full code.pairs clear_pairs in_pairs full_in u v top (suc many) n f g b s.top_at s.low s.rest first_here second_here j) → PairAt c.byte (top + 32 * j) (f (suc many - j)) (g (suc many - j)) (chain n top j)
        each zero p = p
        each (suc j) p = p
    finished c (inr h) = inr (record { at = h.at; r12 = h.r12; used = h.used; outside = outside_then a b c o.outside h.outside })

    pushed_all : Routes I Q (λ c. Turned I q n (suc many) top f g a c ⊎ TurnFull I full top a c) (20 * suc many) b
    pushed_all =
        let r = pairs_put I laid near Q (q + 35) full code.pairs clear_pairs in_pairs full_in u v top (suc many) n f g b s.top_at s.low s.rest first_here second_here many 0 b (omega arith) begun in
        record { to = r.to; count = r.count; few = r.few; route = r.route; goal = finished r.to r.goal }

  -- one turn over two tuples of so many fields, but for the jump back
  pub turn_tuples : (y u v n many top : ℕ) (f g : ℕ → ℕ) (a : Fine) → Two I q y u v n (suc many) top f g a → Routes I Q (λ c. Turned I q n (suc many) top f g a c ⊎ TurnFull I full top a c) (14 + 20 * suc many) a
  turn_tuples y u v n many top f g a s = trip_first 14 (20 * suc many) (opened y u v n (suc many) top f g a s) (λ b t o. pushed_all y u v n many top f g a s b t o)

parts_of : (I : Emitted) (q full : ℕ) → TurnCode I q full → Parts I q full
parts_of I q full c = record { turn = c.turn; tuples = c.tuples; pairs = record { make = c.make; words = stands_at I.code (q + 40) (q + 35 + 5) q_words (omega arith) c.words; next = stands_at I.code (q + 51) (q + 35 + 16) q_next (omega arith) c.next } }

pub delivers : (I : Emitted) (laid : IsLaid I) (near : IsNear I) (q full : ℕ) → TurnCode I q full → IsClear I q 56 → q + 56 ≤ length I.code → full < length I.code → (ret : ℕ) (a : Fine) → Empty I q ret a → ret < length I.code → Trips I (IsQuiet I) (Delivered ret a) 5 a
delivers I laid near q full c clear inside f ret a e r = turn_empty I laid near (IsQuiet I) q full (parts_of I q full c) clear inside f ret a e.at e.x0 e.x11 e.x10 e.x12 e.aligned e.reads e.code r

pub pushes : (I : Emitted) (laid : IsLaid I) (near : IsNear I) (q full : ℕ) → TurnCode I q full → IsClear I q 56 → q + 56 ≤ length I.code → full < length I.code → (y u v n many top : ℕ) (f g : ℕ → ℕ) (a : Fine) → Two I q y u v n (suc many) top f g a → Routes I (IsQuiet I) (λ c. Turned I q n (suc many) top f g a c ⊎ TurnFull I full top a c) (14 + 20 * suc many) a
pushes I laid near q full c clear inside o y u v n many top f g a s = turn_tuples I laid near (IsQuiet I) q full (parts_of I q full c) clear inside o y u v n many top f g a s
