-- The loop that writes to the error stream does so, under any cuts.
use Rattle.std.proofs.Common.{◌≡◌, ◌≢◌, ℕ, zero, suc, ◌+◌, ◌-◌, ◌*◌, ◌%◌, ◌^◌, ◌<◌, ◌≤◌, pos, negsuc, ◌++◌, Some, true, ◌==◌, arith, refl, sym, ap, ◌∙◌, subst, inr, append-nil, append_assoc, le_refl}
use Rattle.std.proofs.lemmas.Bool.Decides.{nat_tests}
use Rattle.rv_isa.specs.declared.table.Op.TheVariants.{Addi, Add, Sub, Beq}
use Rattle.rv_isa.specs.Word.{ins}
use Rattle.rv_machine.specs.Step.{wrapped}
use Rattle.rv_machine.specs.Run.{moved}
use Rattle.simulation.proofs.Heaps.{with_other}
use Rattle.rv_run.specs.Seen.{listed_from}
use Rattle.rv_acts.specs.Emitted.{Emitted, base, IsLaid, CanRead}
use Rattle.rv_acts.specs.Fine.{IsKnown, AllKnown, with_value, Fine}
use Rattle.rv_acts.specs.Act.{put, go, told}
use Rattle.rv_acts.proofs.Doing.{moved_some}
use Rattle.rv_pieces.specs.Stand.{Stands}
use Rattle.rv_pieces.specs.Route.{Trips}
use Rattle.rv_pieces.proofs.Standing.{zero_known, stands_at, stands_within}
use Rattle.rv_pieces.proofs.Then.{finish, rounds, alu_then, falls_then, takes_then, turns_then, tells_then}
use Rattle.rv_acts.specs.Emitted.{IsQuiet}
use Rattle.routine_laws.specs.Places.{IsNear, IsClear}
use Rattle.routine_laws.specs.Errors.{errors_code, Ranged, ErrorTold}
use Rattle.routine_laws.proofs.Strings.{some_left}
use Rattle.routine_laws.proofs.CopyBytes.{read_part}
use Rattle.routine_laws.proofs.PrintString.{listed_on}

module _ (I : Emitted) (laid : IsLaid I) (near : IsNear I) (x n p : ℕ) (code : Stands I.code p errors_code) (clear : IsClear I p 6) (a0 : Fine) (s : Ranged I x n p a0) where
  low_pc : base + 4 * (p + 6) < 2147545088
  low_pc = let i = stands_within I.code p errors_code (omega arith) code in let t = laid.text in let b = laid.above in let n = near.near in omega arith

  record Midway (i k : ℕ) (a : Fine) : Type 0 where
    at : a.at ≡ p
    zero_reg : a.regs 0 ≡ 0
    r11 : a.regs 11 ≡ x + i
    r12 : a.regs 12 ≡ k
    r17 : a.regs 17 ≡ 64
    same : (r : ℕ) → r ≢ 10 → r ≢ 11 → r ≢ 12 → a.regs r ≡ a0.regs r
    bytes : (y : ℕ) → a.byte y ≡ a0.byte y
    err : a.err ≡ a0.err ++ listed_from a0.byte x i
    out : a.out ≡ a0.out
    input : a.input ≡ a0.input

  listed_eq : (m m' : ℕ → ℕ) (y k : ℕ) → ((y : ℕ) → m y ≡ m' y) → listed_from m y k ≡ listed_from m' y k
  listed_eq m m' y zero h = refl
  listed_eq m m' y (suc k) h = let first = h y in let rest = listed_eq m m' (suc y) k h in cc

  less_one : (k m : ℕ) → 0 < m → m ≤ suc k → suc k - m ≤ k
  less_one k m l h = omega arith

  -- one write
  round : (k : ℕ) (a : Fine) → (i : ℕ) × (i + suc k ≡ n) × Midway i (suc k) a → Trips I (IsQuiet I) (λ b. (j : ℕ) × (j ≤ k) × ((i : ℕ) × (i + j ≡ n) × Midway i j b)) 6 a
  round k a g =
      let i = g.0 in
      let e = g.1 in
      let h = g.2 in
      let at = h.at in
      let st = stands_at I.code p a.at errors_code (sym at) code in
      let sm = s.small in
      let r11 = h.r11 in
      let r12 = h.r12 in
      let k0 = zero_known (a.regs 0) h.zero_reg in
      let v10 : (a.regs 0 + 2) % 2 ^ 64 ≡ 2 = let z = h.zero_reg in omega arith in
      let k12 : IsKnown (a.regs 12) = omega arith in
      let none = some_left (a.regs 12) (a.regs 0) k r12 h.zero_reg in
      let kx : IsKnown (x + i) = omega arith in
      let km : IsKnown (suc k) = omega arith in
      let can : CanRead I (x + i) (suc k) = read_part I x n i (suc k) s.reads (omega arith) in
      let known : AllKnown a.byte (x + i) (suc k) = λ j l. let q : x + (i + j) ≡ x + i + j = omega arith in subst (λ y. a.byte y < 256) q (subst (λ v. v < 256) (sym (h.bytes (x + (i + j)))) (s.known (i + j) (omega arith))) in
      falls_then (ins Beq 0 12 0 (pos 24)) st.0 (clear a.at (omega arith) (omega arith)) k12 k0 (ap (λ t. Some t) none)
      (alu_then (ins Addi 10 0 0 (pos 2)) 2 st.1.0 (clear (suc a.at) (omega arith) (omega arith)) k0 k0 (ap (λ x. Some x) v10) (omega arith) (omega arith)
      (tells_then 2 (x + i) (suc k) st.1.1.0 (clear (suc (suc a.at)) (omega arith) (omega arith)) (inr refl) (record { x17 = h.r17; x10 = refl; x11 = r11; x12 = r12; from = kx; many = km; some = omega arith }) can known
      (after (moved a.cuts (suc k)) (moved_some a.cuts (suc k) (omega arith)).0 (moved_some a.cuts (suc k) (omega arith)).1)))
    where
      round_same : (f : ℕ → ℕ) (u v w t r : ℕ) → r ≢ 10 → r ≢ 11 → r ≢ 12 → with_value (with_value (with_value (with_value f 10 u) 10 v) 11 w) 12 t r ≡ f r
      round_same f u v w t r n10 n11 n12 = with_other (with_value (with_value (with_value f 10 u) 10 v) 11 w) 12 t r n12 ∙ with_other (with_value (with_value f 10 u) 10 v) 11 w r n11 ∙ with_other (with_value f 10 u) 10 v r n10 ∙ with_other f 10 u r n10

      back : (q : ℕ) → q ≡ p → base + 4 * (p + 6) < 2147545088 → (base + 4 * suc (suc (suc (suc (suc q)))) + wrapped (negsuc 19)) % 2 ^ 64 ≡ base + 4 * p
      back q e l = omega arith

      taken : (v u m : ℕ) → v ≡ u → m ≤ u → u < 2 ^ 63 → (v + (2 ^ 64 - m)) % 2 ^ 64 ≡ u - m
      taken v u m e l h = omega arith

      after : (m : ℕ) → 0 < m → m ≤ suc k → Trips I (IsQuiet I) (λ b. (j : ℕ) × (j ≤ k) × ((i : ℕ) × (i + j ≡ n) × Midway i j b)) 3 (told 2 (x + g.0) m (put 10 2 (go (suc a.at) a)))
      after m some few =
          let i = g.0 in
          let e = g.1 in
          let h = g.2 in
          let at = h.at in
          let st = stands_at I.code p a.at errors_code (sym at) code in
          let sm = s.small in
          let r11 = h.r11 in
          let r12 = h.r12 in
          let kn : IsKnown m = omega arith in
          let k11 : IsKnown (a.regs 11) = omega arith in
          let k12 : IsKnown (a.regs 12) = omega arith in
          let v11 : (a.regs 11 + m) % 2 ^ 64 ≡ x + (i + m) = omega arith in
          let v12 = taken (a.regs 12) (suc k) m r12 few (omega arith) in
          alu_then (ins Add 11 11 10 (pos 0)) (x + (i + m)) st.1.1.1.0 (clear (suc (suc (suc a.at))) (omega arith) (omega arith)) k11 kn (ap (λ x. Some x) v11) (omega arith) (omega arith)
          (alu_then (ins Sub 12 12 10 (pos 0)) (suc k - m) st.1.1.1.1.0 (clear (suc (suc (suc (suc a.at)))) (omega arith) (omega arith)) k12 kn (ap (λ x. Some x) v12) (omega arith) (omega arith)
          (turns_then (negsuc 19) p st.1.1.1.1.1.0 (clear (suc (suc (suc (suc (suc a.at))))) (omega arith) (omega arith)) (back a.at at low_pc)
          (finish (
            suc k - m,
            less_one k m some few,
            (
              i + m,
              omega arith,
              record {
                at = refl;
                zero_reg = h.zero_reg;
                r11 = refl;
                r12 = refl;
                r17 = h.r17;
                same = λ r n10 n11 n12. round_same a.regs 2 m (x + (i + m)) (suc k - m) r n10 n11 n12 ∙ h.same r n10 n11 n12;
                bytes = h.bytes;
                err = ap (λ l. l ++ listed_from a.byte (x + i) m) h.err ∙ append_assoc a0.err (listed_from a0.byte x i) (listed_from a.byte (x + i) m) ∙ ap (λ l. a0.err ++ (listed_from a0.byte x i ++ l)) (listed_eq a.byte a0.byte (x + i) m h.bytes) ∙ ap (λ l. a0.err ++ l) (listed_on a0.byte x i m);
                out = h.out;
                input = h.input;
              },
            ),
          ))))

  ended : (a : Fine) → (i : ℕ) × (i + 0 ≡ n) × Midway i 0 a → Trips I (IsQuiet I) (ErrorTold x n p a0) 1 a
  ended a g =
      let h = g.2 in
      let e : g.0 ≡ n = let q = g.1 in omega arith in
      let at = h.at in
      let st = stands_at I.code p a.at errors_code (sym at) code in
      let pc = low_pc in
      let z = h.zero_reg in
      let r12 = h.r12 in
      let k0 = zero_known (a.regs 0) z in
      let k12 = zero_known (a.regs 12) r12 in
      let t : (a.regs 12 == a.regs 0) ≡ true = grind (arith, nat_tests) in
      let onto : (base + 4 * a.at + wrapped (pos 24)) % 2 ^ 64 ≡ base + 4 * (p + 6) = omega arith in
      takes_then (ins Beq 0 12 0 (pos 24)) (p + 6) st.0 (clear a.at (omega arith) (omega arith)) k12 k0 (ap (λ t. Some t) t) onto
      (finish (record { at = refl; x12 = r12; same = h.same; bytes = h.bytes; err = h.err ∙ ap (λ k. a0.err ++ listed_from a0.byte x k) e; out = h.out; input = h.input }))

  pub tells_errors : Trips I (IsQuiet I) (ErrorTold x n p a0) (n * 6 + 1) a0
  tells_errors =
      rounds (λ k a. (i : ℕ) × (i + k ≡ n) × Midway i k a) 6 1 round ended n n a0 (le_refl n) (
        0,
        (let z : 0 + n ≡ n = omega arith in z),
        record {
          at = s.at;
          zero_reg = s.x0;
          r11 = s.x11 ∙ (let z : x ≡ x + 0 = omega arith in z);
          r12 = s.x12;
          r17 = s.x17;
          same = λ r n10 n11 n12. refl;
          bytes = λ y. refl;
          err = sym (append-nil a0.err);
          out = refl;
          input = refl;
        },
      )
