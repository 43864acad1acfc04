-- The routine that ends a run with the line of an uncaught exception does so.
use Rattle.std.proofs.Common.{◌≡◌, ℕ, suc, ◌+◌, ◌*◌, ◌%◌, ◌^◌, ◌<◌, ◌≤◌, pos, negsuc, List, [], ◌∷◌, ◌++◌, length, Some, true, not, ◌==◌, arith, refl, sym, ap, ◌∙◌, subst, ⊎_elim, inl, inr, append_assoc}
use Rattle.std.specs.Prelude.{slice_get}
use Rattle.std.specs.Int.{w32, w64, from_le_bytes}
use Rattle.rv_isa.specs.declared.table.Op.TheVariants.{Addi, Andi, Bne, Lwu, Lw, Ld, Ecall}
use Rattle.rv_isa.specs.Word.{ins}
use Rattle.rv_machine.specs.Step.{wrapped}
use Rattle.rv_run.specs.Seen.{listed_from}
use Rattle.rv_acts.specs.Emitted.{Emitted, base, IsLaid, CanRead}
use Rattle.rv_acts.specs.Fine.{IsKnown, AllKnown, Fine}
use Rattle.rv_acts.specs.Act.{put}
use Rattle.rv_acts.specs.Trip.{WordIs}
use Rattle.rv_acts.proofs.Arena.{word_same}
use Rattle.rv_pieces.specs.Stand.{Stands}
use Rattle.rv_pieces.specs.Pair.{Reaches}
use Rattle.rv_pieces.specs.Route.{Trips}
use Rattle.rv_pieces.proofs.Standing.{zero_known, stands_left, stands_right, stands_at, stands_within}
use Rattle.rv_pieces.proofs.Then.{finish, then_on, to_goal, alu_then, load_then, falls_then, takes_then}
use Rattle.rv_pieces.proofs.Saving.{la_then}
use Rattle.std.specs.Prelude.{codes}
use Rattle.rv_machine.specs.Step.{extended}
use Rattle.rv_run.specs.Run.{Spot, line_of}
use Rattle.rv_run.proofs.Ends.{uncaught_is}
use Rattle.rv_acts.specs.Emitted.{IsQuiet}
use Rattle.rv_acts.specs.Fine.{Shown}
use Rattle.rv_acts.proofs.Trips.{trip_done}
use Rattle.rv_acts.proofs.Doing.{exit_done}
use Rattle.routine_laws.specs.Places.{end_at, IsNear, IsClear}
use Rattle.routine_laws.specs.Strings.{string_words, StringIn}
use Rattle.routine_laws.specs.Errors.{errors_code, Ranged}
use Rattle.routine_laws.specs.Uncaught.{u_name, u_static, u_text, u_exit, uncaught_code, IsPacket, bare, carried, Thrown, uncaught_most, EndsUncaught}
use Rattle.routine_laws.proofs.Strings.{half_word}
use Rattle.routine_laws.proofs.PrintString.{listed_all}
use Rattle.routine_laws.proofs.Telling.{tells_errors}

-- the lower half of a header
low_half : (m : ℕ → ℕ) (x h n : ℕ) → WordIs m x (h + 4294967296 * n) → h < 4294967296 → n < 4294967296 → AllKnown m x 4 × (from_le_bytes w32 (listed_from m x 4) ≡ h)
low_half m x h n w l k =
    let b0 = w.known 0 (omega arith) in
    let b1 = w.known 1 (omega arith) in
    let b2 = w.known 2 (omega arith) in
    let b3 = w.known 3 (omega arith) in
    let b4 = w.known 4 (omega arith) in
    let b5 = w.known 5 (omega arith) in
    let b6 = w.known 6 (omega arith) in
    let b7 = w.known 7 (omega arith) in
    let e : from_le_bytes w64 (m (x + 0) ∷ m (x + 1) ∷ m (x + 2) ∷ m (x + 3) ∷ m (x + 4) ∷ m (x + 5) ∷ m (x + 6) ∷ m (x + 7) ∷ []) ≡ h + 4294967296 * n = subst (λ l. from_le_bytes w64 l ≡ h + 4294967296 * n) (eight m x) w.is in
    (λ i q. w.known i (omega arith), ap (from_le_bytes w32) (four m x) ∙ omega arith)
  where
    eight : (m : ℕ → ℕ) (x : ℕ) → listed_from m x 8 ≡ m (x + 0) ∷ m (x + 1) ∷ m (x + 2) ∷ m (x + 3) ∷ m (x + 4) ∷ m (x + 5) ∷ m (x + 6) ∷ m (x + 7) ∷ []
    eight m x =
        let e0 : x + 0 ≡ x = omega arith in
        let e1 : x + 1 ≡ suc x = omega arith in
        let e2 : x + 2 ≡ suc (suc x) = omega arith in
        let e3 : x + 3 ≡ suc (suc (suc x)) = omega arith in
        let e4 : x + 4 ≡ suc (suc (suc (suc x))) = omega arith in
        let e5 : x + 5 ≡ suc (suc (suc (suc (suc x)))) = omega arith in
        let e6 : x + 6 ≡ suc (suc (suc (suc (suc (suc x))))) = omega arith in
        let e7 : x + 7 ≡ suc (suc (suc (suc (suc (suc (suc x)))))) = omega arith in
        rw (e0, e1, e2, e3, e4, e5, e6, e7) refl

    four : (m : ℕ → ℕ) (x : ℕ) → listed_from m x 4 ≡ m (x + 0) ∷ m (x + 1) ∷ m (x + 2) ∷ m (x + 3) ∷ []
    four m x =
        let e0 : x + 0 ≡ x = omega arith in
        let e1 : x + 1 ≡ suc x = omega arith in
        let e2 : x + 2 ≡ suc (suc x) = omega arith in
        let e3 : x + 3 ≡ suc (suc (suc x)) = omega arith in
        rw (e0, e1, e2, e3) refl

-- ---- a string at hand

module _ (I : Emitted) (laid : IsLaid I) (near : IsNear I) (top x : ℕ) (cs : List ℕ) (m : ℕ → ℕ) (te : top ≤ end_at I) (s : StringIn I top m x cs) where
  enough : (n : ℕ) → n ≤ 8 * string_words n
  enough n = omega arith

  str_high : x + 8 + 8 * string_words (length cs) < 2147545088
  str_high = ⊎_elim
      (λ (q : (I.place ≤ x) × (x + 8 + 8 * string_words (length cs) ≤ I.place + length I.literals)). let a = laid.above in let n = near.near in let c = q.1 in omega arith)
      (λ (q : (I.entries.arena ≤ x) × (x + 8 + 8 * string_words (length cs) ≤ top)). let n = near.near in let b = q.1 in omega arith)
      s.place

  str_reads : (k n : ℕ) → k + n ≤ 8 + 8 * string_words (length cs) → CanRead I (x + k) n
  str_reads k n l = ⊎_elim
      (λ (q : (I.place ≤ x) × (x + 8 + 8 * string_words (length cs) ≤ I.place + length I.literals)). let b = q.0 in let c = q.1 in inl (omega arith, omega arith))
      (λ (q : (I.entries.arena ≤ x) × (x + 8 + 8 * string_words (length cs) ≤ top)). let a = q.0 in let b = q.1 in inr (omega arith, omega arith))
      s.place

  str_short : x + 8 + length cs < 2147545088
  str_short = let h = str_high in let w = enough (length cs) in omega arith

  str_whole : CanRead I (x + 8) (length cs)
  str_whole = let w = enough (length cs) in str_reads 8 (length cs) (omega arith)

  str_known : AllKnown m (x + 8) (length cs)
  str_known = λ j l. let w = enough (length cs) in subst (λ v. v < 256) (sym (s.here.bytes j (omega arith))) (s.small j)

  str_listed : listed_from m (x + 8) (length cs) ≡ cs
  str_listed = let w = enough (length cs) in listed_all m (x + 8) cs (λ j l. s.here.bytes j (omega arith))

  str_length : AllKnown m (x + 4) 4 × (from_le_bytes w32 (listed_from m (x + 4) 4) ≡ length cs)
  str_length = let h = str_short in half_word m x 2 (length cs) s.here.header (omega arith) (omega arith)

-- ---- the pieces

pub record Parts (I : Emitted) (p front back : ℕ) : Type 0 where
  pub name : Stands I.code p u_name
  pub first : Stands I.code (p + 7) (u_static (p + 7) front 19)
  pub loop1 : Stands I.code (p + 11) errors_code
  pub text : Stands I.code (p + 17) u_text
  pub loop2 : Stands I.code (p + 19) errors_code
  pub last : Stands I.code (p + 25) (u_static (p + 25) back 1)
  pub loop3 : Stands I.code (p + 29) errors_code
  pub exit : Stands I.code (p + 35) u_exit

parts : (I : Emitted) (p front back : ℕ) → Stands I.code p (uncaught_code p front back) → Parts I p front back
parts I p front back st =
    let r6 = errors_code ++ u_exit in
    let r5 = u_static (p + 25) back 1 ++ (errors_code ++ u_exit) in
    let r4 = errors_code ++ (u_static (p + 25) back 1 ++ (errors_code ++ u_exit)) in
    let r3 = u_text ++ (errors_code ++ (u_static (p + 25) back 1 ++ (errors_code ++ u_exit))) in
    let r2 = errors_code ++ (u_text ++ (errors_code ++ (u_static (p + 25) back 1 ++ (errors_code ++ u_exit)))) in
    let r1 = u_static (p + 7) front 19 ++ (errors_code ++ (u_text ++ (errors_code ++ (u_static (p + 25) back 1 ++ (errors_code ++ u_exit))))) in
    let s1 = stands_right I.code p u_name r1 st in
    let s2 = stands_at I.code (p + 7 + 4) (p + 11) r2 (omega arith) (stands_right I.code (p + 7) (u_static (p + 7) front 19) r2 s1) in
    let s3 = stands_at I.code (p + 11 + 6) (p + 17) r3 (omega arith) (stands_right I.code (p + 11) errors_code r3 s2) in
    let s4 = stands_at I.code (p + 17 + 2) (p + 19) r4 (omega arith) (stands_right I.code (p + 17) u_text r4 s3) in
    let s5 = stands_at I.code (p + 19 + 6) (p + 25) r5 (omega arith) (stands_right I.code (p + 19) errors_code r5 s4) in
    let s6 = stands_at I.code (p + 25 + 4) (p + 29) r6 (omega arith) (stands_right I.code (p + 25) (u_static (p + 25) back 1) r6 s5) in
    let s7 = stands_at I.code (p + 29 + 6) (p + 35) u_exit (omega arith) (stands_right I.code (p + 29) errors_code u_exit s6) in
    record {
      name = stands_left I.code p u_name r1 st;
      first = stands_left I.code (p + 7) (u_static (p + 7) front 19) r2 s1;
      loop1 = stands_left I.code (p + 11) errors_code r3 s2;
      text = stands_left I.code (p + 17) u_text r4 s3;
      loop2 = stands_left I.code (p + 19) errors_code r5 s4;
      last = stands_left I.code (p + 25) (u_static (p + 25) back 1) r6 s5;
      loop3 = stands_left I.code (p + 29) errors_code u_exit s6;
      exit = s7;
    }

-- on the way, with what is written so far
record Way (q : ℕ) (e : List ℕ) (t : ℕ) (a b : Fine) : Type 0 where
  at : b.at ≡ q
  x0 : b.regs 0 ≡ 0
  x17 : b.regs 17 ≡ 64
  x7 : b.regs 7 ≡ t
  bytes : (y : ℕ) → b.byte y ≡ a.byte y
  err : b.err ≡ e
  out : b.out ≡ a.out

same_string : (I : Emitted) (top x : ℕ) (cs : List ℕ) (m m' : ℕ → ℕ) → ((y : ℕ) → m' y ≡ m y) → StringIn I top m x cs → StringIn I top m' x cs
same_string I top x cs m m' h s = record {
  aligned = s.aligned;
  here = record { header = word_same m m' x (2 + 4294967296 * length cs) (λ i l. h (x + i)) s.here.header; bytes = λ j l. h (x + 8 + j) ∙ s.here.bytes j l };
  small = s.small;
  place = s.place;
}

module _ (I : Emitted) (laid : IsLaid I) (near : IsNear I) (p front back : ℕ) (code : Parts I p front back) (clear : IsClear I p 38) (inside : p + 38 ≤ length I.code) (top : ℕ) (name : List ℕ) (x y t : ℕ) (a : Fine) (s : Thrown I front back top p name x y t a) where
  low_pc : base + 4 * (p + 38) < 2147545088
  low_pc = let u = laid.text in let b = laid.above in let n = near.near in omega arith

  clear_six : (q : ℕ) → p ≤ q → q ≤ p + 32 → IsClear I q 6
  clear_six q l h = λ k i j. clear k (omega arith) (omega arith)

  text_small : t < 2147545088
  text_small = let h = str_short I laid near top t name a.byte s.high s.text in omega arith

  -- the name's text
  named : Trips I (IsQuiet I) (Way (p + 7) [] t a) 7 a
  named =
      let at = s.at in
      let st = stands_at I.code p a.at u_name (sym at) code.name in
      let pc = low_pc in
      let z = s.x0 in
      let k0 = zero_known (a.regs 0) z in
      let sx = s.small.0 in
      let sy = s.small.1 in
      let ax = s.aligned.0 in
      let ay = s.aligned.1 in
      let x11 = s.x11 in
      let k11 : IsKnown (a.regs 11) = omega arith in
      let kx : IsKnown x = omega arith in
      let ky : IsKnown y = omega arith in
      let v17 : (a.regs 0 + 64) % 2 ^ 64 ≡ 64 = omega arith in
      let ad0 : (a.regs 11 + wrapped (pos 0)) % 2 ^ 64 ≡ x = omega arith in
      let ad8 : (a.regs 11 + wrapped (pos 8)) % 2 ^ 64 ≡ x + 8 = omega arith in
      let al0 : x % 4 ≡ 0 = omega arith in
      let al8 : (x + 8) % 8 ≡ 0 = omega arith in
      let ady : (y + wrapped (pos 8)) % 2 ^ 64 ≡ y + 8 = omega arith in
      let aly : (y + 8) % 8 ≡ 0 = omega arith in
      let l4 : IsKnown 4 = omega arith in
      let l5 : IsKnown 5 = omega arith in
      let lz : IsKnown 0 = omega arith in
      let lm : IsKnown 18446744073709551615 = omega arith in
      let onto : (base + 4 * suc (suc (suc (suc a.at))) + wrapped (pos 8)) % 2 ^ 64 ≡ base + 4 * (p + 6) = omega arith in
      let q6 : suc (suc (suc (suc (suc (suc a.at))))) ≡ p + 6 = omega arith in
      let q7 : suc (p + 6) ≡ p + 7 = omega arith in
      alu_then (ins Addi 17 0 0 (pos 64)) 64 st.0 (clear a.at (omega arith) (omega arith)) k0 k0 (ap (λ x. Some x) v17) (omega arith) (omega arith)
      (by s.packet)
    where
      on : (v : ℕ) → not (v == a.regs 0) ≡ not (v == 0)
      on v = ap (λ z. not (v == z)) s.x0

      by : IsPacket I a.byte x y → Trips I (IsQuiet I) (Way (p + 7) [] t a) 6 (put 17 64 a)
      by (bare e r w) =
          let at = s.at in
          let st = stands_at I.code p a.at u_name (sym at) code.name in
          let pc = low_pc in
          let z = s.x0 in
          let k0 = zero_known (a.regs 0) z in
          let sx = s.small.0 in
          let sy = s.small.1 in
          let ax = s.aligned.0 in
          let ay = s.aligned.1 in
          let x11 = s.x11 in
          let k11 : IsKnown (a.regs 11) = omega arith in
          let ad0 : (a.regs 11 + wrapped (pos 0)) % 2 ^ 64 ≡ x = omega arith in
          let al0 : x % 4 ≡ 0 = omega arith in
          let ady : (a.regs 11 + wrapped (pos 8)) % 2 ^ 64 ≡ y + 8 = omega arith in
          let aly : (y + 8) % 8 ≡ 0 = omega arith in
          let l4 : IsKnown 4 = omega arith in
          let lm : IsKnown 18446744073709551615 = omega arith in
          let half = low_half a.byte x 4 1 w (omega arith) (omega arith) in
          let q6 : suc (suc (suc (suc (suc (suc a.at))))) ≡ p + 6 = omega arith in
          let q7 : suc (p + 6) ≡ p + 7 = omega arith in
          let onto : (base + 4 * suc (suc (suc (suc a.at))) + wrapped (pos 8)) % 2 ^ 64 ≡ base + 4 * (p + 6) = omega arith in
          load_then (ins Lw 5 11 0 (pos 0)) w32 x 4 st.1.0 (clear (suc a.at) (omega arith) (omega arith)) k11 refl ad0 al0 r half.0 (ap (extended true w32) half.1) (omega arith) (omega arith)
          (alu_then (ins Andi 5 5 0 (pos 7)) 4 st.1.1.0 (clear (suc (suc a.at)) (omega arith) (omega arith)) l4 k0 refl (omega arith) (omega arith)
          (alu_then (ins Addi 5 5 0 (negsuc 4)) 18446744073709551615 st.1.1.1.0 (clear (suc (suc (suc a.at))) (omega arith) (omega arith)) l4 k0 refl (omega arith) (omega arith)
          (takes_then (ins Bne 0 5 0 (pos 8)) (p + 6) st.1.1.1.1.0 (clear (suc (suc (suc (suc a.at)))) (omega arith) (omega arith)) lm k0 (ap (λ t. Some t) (on 18446744073709551615)) onto
          (load_then (ins Ld 7 11 0 (pos 8)) w64 (y + 8) t (subst (λ n. slice_get I.code n ≡ Some (ins Ld 7 11 0 (pos 8))) q6 st.1.1.1.1.1.1.0) (clear (p + 6) (omega arith) (omega arith)) k11 refl ady aly s.reads s.named.known s.named.is (omega arith) (omega arith)
          (finish (record { at = q7; x0 = z; x17 = refl; x7 = refl; bytes = λ y. refl; err = s.err; out = refl }))))))
      by (carried r r8 w n) =
          let at = s.at in
          let st = stands_at I.code p a.at u_name (sym at) code.name in
          let z = s.x0 in
          let k0 = zero_known (a.regs 0) z in
          let sx = s.small.0 in
          let sy = s.small.1 in
          let ax = s.aligned.0 in
          let ay = s.aligned.1 in
          let x11 = s.x11 in
          let k11 : IsKnown (a.regs 11) = omega arith in
          let ky : IsKnown y = omega arith in
          let ad0 : (a.regs 11 + wrapped (pos 0)) % 2 ^ 64 ≡ x = omega arith in
          let ad8 : (a.regs 11 + wrapped (pos 8)) % 2 ^ 64 ≡ x + 8 = omega arith in
          let al0 : x % 4 ≡ 0 = omega arith in
          let al8 : (x + 8) % 8 ≡ 0 = omega arith in
          let ady : (y + wrapped (pos 8)) % 2 ^ 64 ≡ y + 8 = omega arith in
          let aly : (y + 8) % 8 ≡ 0 = omega arith in
          let l5 : IsKnown 5 = omega arith in
          let lz : IsKnown 0 = omega arith in
          let half = low_half a.byte x 5 2 w (omega arith) (omega arith) in
          let q7 : suc (suc (suc (suc (suc (suc (suc a.at)))))) ≡ p + 7 = omega arith in
          load_then (ins Lw 5 11 0 (pos 0)) w32 x 5 st.1.0 (clear (suc a.at) (omega arith) (omega arith)) k11 refl ad0 al0 r half.0 (ap (extended true w32) half.1) (omega arith) (omega arith)
          (alu_then (ins Andi 5 5 0 (pos 7)) 5 st.1.1.0 (clear (suc (suc a.at)) (omega arith) (omega arith)) l5 k0 refl (omega arith) (omega arith)
          (alu_then (ins Addi 5 5 0 (negsuc 4)) 0 st.1.1.1.0 (clear (suc (suc (suc a.at))) (omega arith) (omega arith)) l5 k0 refl (omega arith) (omega arith)
          (falls_then (ins Bne 0 5 0 (pos 8)) st.1.1.1.1.0 (clear (suc (suc (suc (suc a.at)))) (omega arith) (omega arith)) lz k0 (ap (λ t. Some t) (on 0))
          (load_then (ins Ld 11 11 0 (pos 8)) w64 (x + 8) y st.1.1.1.1.1.0 (clear (suc (suc (suc (suc (suc a.at))))) (omega arith) (omega arith)) k11 refl ad8 al8 r8 n.known n.is (omega arith) (omega arith)
          (load_then (ins Ld 7 11 0 (pos 8)) w64 (y + 8) t st.1.1.1.1.1.1.0 (clear (suc (suc (suc (suc (suc (suc a.at)))))) (omega arith) (omega arith)) ky refl ady aly s.reads s.named.known s.named.is (omega arith) (omega arith)
          (finish (record { at = q7; x0 = z; x17 = refl; x7 = refl; bytes = λ y. refl; err = s.err; out = refl })))))))

  -- a static string is written
  static : (q w : ℕ) (cs e : List ℕ) (b : Fine) → p ≤ q → q ≤ p + 28 → length cs < 2000 → Reaches q w → Stands I.code q (u_static q w (length cs)) → Stands I.code (q + 4) errors_code → StringIn I top a.byte w cs → Way q e t a b → Trips I (IsQuiet I) (Way (q + 10) (e ++ cs) t a) (4 + (length cs * 6 + 1)) b
  static q w cs e b lo hi few reach st loop str h =
      then_on 4 (length cs * 6 + 1) begin (λ c u g. told c g)
    where
      here : (m : ℕ → ℕ) → ((y : ℕ) → m y ≡ a.byte y) → StringIn I top m w cs
      here m k = same_string I top w cs a.byte m k str

      begin : Trips I (IsQuiet I) (λ c. Ranged I (w + 8) (length cs) (q + 4) c × (c.regs 7 ≡ t) × ((y : ℕ) → c.byte y ≡ a.byte y) × (c.err ≡ e) × (c.out ≡ a.out)) 4 b
      begin =
          let at = h.at in
          let c = stands_at I.code q b.at (u_static q w (length cs)) (sym at) st in
          let z = h.x0 in
          let k0 = zero_known (b.regs 0) z in
          let wh = str_short I laid near top w cs a.byte s.high str in
          let kw : IsKnown w = omega arith in
          let v8 : (w + 8) % 2 ^ 64 ≡ w + 8 = omega arith in
          let vn : (b.regs 0 + wrapped (pos (length cs))) % 2 ^ 64 ≡ length cs = omega arith in
          let q4 : suc (suc (suc (suc b.at))) ≡ q + 4 = omega arith in
          la_then 11 q w at (omega arith) (omega arith) z reach c.0 c.1.0 (clear b.at (omega arith) (omega arith)) (clear (suc b.at) (omega arith) (omega arith)) (λ u.
          alu_then (ins Addi 11 11 0 (pos 8)) (w + 8) c.1.1.0 (clear (suc (suc b.at)) (omega arith) (omega arith)) kw k0 (ap (λ x. Some x) v8) (omega arith) (omega arith)
          (alu_then (ins Addi 12 0 0 (pos (length cs))) (length cs) c.1.1.1.0 (clear (suc (suc (suc b.at))) (omega arith) (omega arith)) k0 k0 (ap (λ x. Some x) vn) (omega arith) (omega arith)
          (finish (record { at = q4; x0 = z; x17 = h.x17; x11 = refl; x12 = refl; reads = str_whole I laid near top w cs a.byte s.high str; known = str_known I laid near top w cs b.byte s.high (here b.byte h.bytes); small = omega arith }, h.x7, h.bytes, h.err, h.out))))

      told : (c : Fine) → Ranged I (w + 8) (length cs) (q + 4) c × (c.regs 7 ≡ t) × ((y : ℕ) → c.byte y ≡ a.byte y) × (c.err ≡ e) × (c.out ≡ a.out) → Trips I (IsQuiet I) (Way (q + 10) (e ++ cs) t a) (length cs * 6 + 1) c
      told c g =
          to_goal (length cs * 6 + 1) (λ d u k. record {
            at = k.at ∙ (let z : q + 4 + 6 ≡ q + 10 = omega arith in z);
            x0 = u.x0 ∙ g.0.x0;
            x17 = k.same 17 (omega arith) (omega arith) (omega arith) ∙ g.0.x17;
            x7 = k.same 7 (omega arith) (omega arith) (omega arith) ∙ g.1;
            bytes = λ y. k.bytes y ∙ g.2 y;
            err = k.err ∙ ap (λ l. l ++ listed_from c.byte (w + 8) (length cs)) g.3 ∙ ap (λ l. e ++ l) (str_listed I laid near top w cs c.byte s.high (here c.byte g.2));
            out = k.out ∙ g.4;
          })
          (tells_errors I laid near (w + 8) (length cs) (q + 4) loop (clear_six (q + 4) (omega arith) (omega arith)) c g.0)

  -- the text is written
  spelled : (e : List ℕ) (b : Fine) → Way (p + 17) e t a b → Trips I (IsQuiet I) (Way (p + 25) (e ++ name) t a) (2 + (length name * 6 + 1)) b
  spelled e b h =
      then_on 2 (length name * 6 + 1) begin (λ c u g. told c g)
    where
      here : (m : ℕ → ℕ) → ((y : ℕ) → m y ≡ a.byte y) → StringIn I top m t name
      here m k = same_string I top t name a.byte m k s.text

      begin : Trips I (IsQuiet I) (λ c. Ranged I (t + 8) (length name) (p + 19) c × (c.regs 7 ≡ t) × ((y : ℕ) → c.byte y ≡ a.byte y) × (c.err ≡ e) × (c.out ≡ a.out)) 2 b
      begin =
          let at = h.at in
          let c = stands_at I.code (p + 17) b.at u_text (sym at) code.text in
          let z = h.x0 in
          let k0 = zero_known (b.regs 0) z in
          let x7 = h.x7 in
          let th = str_short I laid near top t name a.byte s.high s.text in
          let k7 : IsKnown (b.regs 7) = omega arith in
          let v8 : (b.regs 7 + 8) % 2 ^ 64 ≡ t + 8 = omega arith in
          let ad : (b.regs 7 + wrapped (pos 4)) % 2 ^ 64 ≡ t + 4 = omega arith in
          let al : (t + 4) % 4 ≡ 0 = let q = s.text.aligned in omega arith in
          let len = str_length I laid near top t name b.byte s.high (here b.byte h.bytes) in
          let q2 : suc (suc b.at) ≡ p + 19 = omega arith in
          alu_then (ins Addi 11 7 0 (pos 8)) (t + 8) c.0 (clear b.at (omega arith) (omega arith)) k7 k0 (ap (λ x. Some x) v8) (omega arith) (omega arith)
          (load_then (ins Lwu 12 7 0 (pos 4)) w32 (t + 4) (length name) c.1.0 (clear (suc b.at) (omega arith) (omega arith)) k7 refl ad al (str_reads I laid near top t name a.byte s.high s.text 4 4 (omega arith)) len.0 len.1 (omega arith) (omega arith)
          (finish (record { at = q2; x0 = z; x17 = h.x17; x11 = refl; x12 = refl; reads = str_whole I laid near top t name a.byte s.high s.text; known = str_known I laid near top t name b.byte s.high (here b.byte h.bytes); small = omega arith }, h.x7, h.bytes, h.err, h.out)))

      told : (c : Fine) → Ranged I (t + 8) (length name) (p + 19) c × (c.regs 7 ≡ t) × ((y : ℕ) → c.byte y ≡ a.byte y) × (c.err ≡ e) × (c.out ≡ a.out) → Trips I (IsQuiet I) (Way (p + 25) (e ++ name) t a) (length name * 6 + 1) c
      told c g =
          to_goal (length name * 6 + 1) (λ d u k. record {
            at = k.at ∙ (let z : p + 19 + 6 ≡ p + 25 = omega arith in z);
            x0 = u.x0 ∙ g.0.x0;
            x17 = k.same 17 (omega arith) (omega arith) (omega arith) ∙ g.0.x17;
            x7 = k.same 7 (omega arith) (omega arith) (omega arith) ∙ g.1;
            bytes = λ y. k.bytes y ∙ g.2 y;
            err = k.err ∙ ap (λ l. l ++ listed_from c.byte (t + 8) (length name)) g.3 ∙ ap (λ l. e ++ l) (str_listed I laid near top t name c.byte s.high (here c.byte g.2));
            out = k.out ∙ g.4;
          })
          (tells_errors I laid near (t + 8) (length name) (p + 19) code.loop2 (clear_six (p + 19) (omega arith) (omega arith)) c g.0)

  -- at the call
  record Last (b : Fine) : Type 0 where
    ecall : slice_get I.code b.at ≡ Some (ins Ecall 0 0 0 (pos 0))
    x17 : b.regs 17 ≡ 93
    x10 : b.regs 10 ≡ 1
    err : b.err ≡ line_of name
    out : b.out ≡ a.out

  leaves : (b : Fine) → Way (p + 35) ((([] ++ codes "uncaught exception ") ++ name) ++ 10 ∷ []) t a b → Trips I (IsQuiet I) Last 2 b
  leaves b h =
      let at = h.at in
      let c = stands_at I.code (p + 35) b.at u_exit (sym at) code.exit in
      let z = h.x0 in
      let k0 = zero_known (b.regs 0) z in
      let v1 : (b.regs 0 + 1) % 2 ^ 64 ≡ 1 = omega arith in
      let v93 : (b.regs 0 + 93) % 2 ^ 64 ≡ 93 = omega arith in
      alu_then (ins Addi 10 0 0 (pos 1)) 1 c.0 (clear b.at (omega arith) (omega arith)) k0 k0 (ap (λ x. Some x) v1) (omega arith) (omega arith)
      (alu_then (ins Addi 17 0 0 (pos 93)) 93 c.1.0 (clear (suc b.at) (omega arith) (omega arith)) k0 k0 (ap (λ x. Some x) v93) (omega arith) (omega arith)
      (finish (record { ecall = c.1.1.0; x17 = refl; x10 = refl; err = h.err ∙ append_assoc (codes "uncaught exception ") name (10 ∷ []); out = h.out })))

  whole : Trips I (IsQuiet I) Last (7 + (4 + (19 * 6 + 1) + (2 + (length name * 6 + 1) + (4 + (1 * 6 + 1) + 2)))) a
  whole =
      then_on 7 (4 + (19 * 6 + 1) + (2 + (length name * 6 + 1) + (4 + (1 * 6 + 1) + 2))) named (λ b t1 h.
      then_on (4 + (19 * 6 + 1)) (2 + (length name * 6 + 1) + (4 + (1 * 6 + 1) + 2)) (static (p + 7) front (codes "uncaught exception ") [] b (omega arith) (omega arith) (omega arith) s.to_front code.first (stands_at I.code (p + 11) (p + 7 + 4) errors_code (omega arith) code.loop1) s.begins h) (λ c t2 k.
      then_on (2 + (length name * 6 + 1)) (4 + (1 * 6 + 1) + 2) (spelled (codes "uncaught exception ") c (moved_to (p + 7 + 10) (p + 17) (codes "uncaught exception ") c (omega arith) k)) (λ d t3 l.
      then_on (4 + (1 * 6 + 1)) 2 (static (p + 25) back (10 ∷ []) (codes "uncaught exception " ++ name) d (omega arith) (omega arith) (omega arith) s.to_back code.last (stands_at I.code (p + 29) (p + 25 + 4) errors_code (omega arith) code.loop3) s.ends l) (λ e t4 m.
      leaves e (moved_to (p + 25 + 10) (p + 35) ((codes "uncaught exception " ++ name) ++ 10 ∷ []) e (omega arith) m)))))
    where
      moved_to : (q r : ℕ) (e : List ℕ) (b : Fine) → q ≡ r → Way q e t a b → Way r e t a b
      moved_to q r e b z h = subst (λ q. Way q e t a b) z h

  pub uncaught_ends : (u : Spot) → Shown I a u → EndsUncaught I (uncaught_most name) name u
  uncaught_ends u m =
      let r = whole in
      let d = trip_done I laid r.count a r.to r.trip u m in
      let g = r.goal in
      let v = exit_done I laid r.to d.to 1 d.shown g.ecall g.x17 g.x10 (omega arith) in
      let e : d.to.world.err ≡ line_of name = d.shown.err ∙ g.err in
      let few = r.few in
      record { count = r.count; few = omega arith; to = d.to; there = d.there; quiet = d.quiet; stop = v.step; is = v.end ∙ uncaught_is d.to.world.err name e; err = e; out = d.shown.out ∙ g.out ∙ sym m.out }

pub ends_uncaught : (I : Emitted) (laid : IsLaid I) (near : IsNear I) (p front back : ℕ) → Stands I.code p (uncaught_code p front back) → IsClear I p 38 → (top : ℕ) (name : List ℕ) (x y t : ℕ) (a : Fine) → Thrown I front back top p name x y t a → (u : Spot) → Shown I a u → EndsUncaught I (uncaught_most name) name u
ends_uncaught I laid near p front back st clear top name x y t a s u m = uncaught_ends I laid near p front back (parts I p front back st) clear (stands_within I.code p (uncaught_code p front back) (omega arith) st) top name x y t a s u m
