-- Three registers that a routine saves at its beginning and brings back at its end.
use Rattle.std.proofs.Common.{◌≡◌, ◌≢◌, ℕ, suc, ◌+◌, ◌*◌, ◌%◌, ◌^◌, ◌<◌, ◌≤◌, pos, List, length, arith, refl, sym, ◌∙◌, subst, ⊎_elim, ◌⊎◌, inl, inr}
use Rattle.rv_machine.specs.Step.{wrapped}
use Rattle.simulation.proofs.Heaps.{with_other}
use Rattle.rv_acts.specs.Emitted.{Emitted, base, IsLaid, CanWrite}
use Rattle.rv_acts.specs.Fine.{IsKnown, with_value, with_bytes, Fine}
use Rattle.rv_acts.proofs.Bytes.{bytes_out}
use Rattle.rv_acts.proofs.Arena.{word_same}
use Rattle.rv_pieces.specs.Stand.{Stands}
use Rattle.rv_pieces.specs.Pair.{Reaches}
use Rattle.rv_pieces.specs.Route.{Trips}
use Rattle.rv_pieces.proofs.Standing.{stands_at}
use Rattle.rv_pieces.proofs.Then.{finish, leaps_then}
use Rattle.rv_pieces.proofs.Saving.{IsSaved, save_then, restore_then, la_then}
use Rattle.routine_laws.specs.Places.{save_at, end_at, IsNear}
use Rattle.routine_laws.specs.Strings.{SameOutside}
use Rattle.routine_laws.specs.Concat.{c_save, c_load}

-- the save area's three words
pub record Saved (I : Emitted) (a : Fine) (m : ℕ → ℕ) : Type 0 where
  pub r28 : IsSaved m (save_at I) (a.regs 28)
  pub r29 : IsSaved m (save_at I + 8) (a.regs 29)
  pub r30 : IsSaved m (save_at I + 16) (a.regs 30)

pub saved_same : (I : Emitted) (a : Fine) (m m' : ℕ → ℕ) → ((x : ℕ) → save_at I ≤ x → x < save_at I + 24 → m' x ≡ m x) → Saved I a m → Saved I a m'
saved_same I a m m' h s = record {
  r28 = λ k. word_same m m' (save_at I) (a.regs 28) (λ i l. h (save_at I + i) (omega arith) (omega arith)) (s.r28 k);
  r29 = λ k. word_same m m' (save_at I + 8) (a.regs 29) (λ i l. h (save_at I + 8 + i) (omega arith) (omega arith)) (s.r29 k);
  r30 = λ k. word_same m m' (save_at I + 16) (a.regs 30) (λ i l. h (save_at I + 16 + i) (omega arith) (omega arith)) (s.r30 k);
}

-- three words written one after another
pub three_saved : (m : ℕ → ℕ) (x u v w : ℕ) (n1 n2 n3 : List ℕ) → length n1 ≡ 8 → length n2 ≡ 8 → length n3 ≡ 8 → IsSaved (with_bytes m x n1) x u → IsSaved (with_bytes (with_bytes m x n1) (x + 8) n2) (x + 8) v → IsSaved (with_bytes (with_bytes (with_bytes m x n1) (x + 8) n2) (x + 16) n3) (x + 16) w → IsSaved (with_bytes (with_bytes (with_bytes m x n1) (x + 8) n2) (x + 16) n3) x u × IsSaved (with_bytes (with_bytes (with_bytes m x n1) (x + 8) n2) (x + 16) n3) (x + 8) v × IsSaved (with_bytes (with_bytes (with_bytes m x n1) (x + 8) n2) (x + 16) n3) (x + 16) w
three_saved m x u v w n1 n2 n3 l1 l2 l3 s1 s2 s3 = (
  λ k. word_same (with_bytes m x n1) (with_bytes (with_bytes (with_bytes m x n1) (x + 8) n2) (x + 16) n3) x u (λ i l. bytes_out (with_bytes (with_bytes m x n1) (x + 8) n2) (x + 16) n3 (x + i) (inl (omega arith)) ∙ bytes_out (with_bytes m x n1) (x + 8) n2 (x + i) (inl (omega arith))) (s1 k),
  λ k. word_same (with_bytes (with_bytes m x n1) (x + 8) n2) (with_bytes (with_bytes (with_bytes m x n1) (x + 8) n2) (x + 16) n3) (x + 8) v (λ i l. bytes_out (with_bytes (with_bytes m x n1) (x + 8) n2) (x + 16) n3 (x + 8 + i) (inl (omega arith))) (s2 k),
  s3,
)

pub three_others : (m : ℕ → ℕ) (x : ℕ) (n1 n2 n3 : List ℕ) → length n1 ≡ 8 → length n2 ≡ 8 → length n3 ≡ 8 → (y : ℕ) → (y < x) ⊎ (x + 24 ≤ y) → with_bytes (with_bytes (with_bytes m x n1) (x + 8) n2) (x + 16) n3 y ≡ m y
three_others m x n1 n2 n3 l1 l2 l3 y q = ⊎_elim
    (λ (l : y < x). bytes_out (with_bytes (with_bytes m x n1) (x + 8) n2) (x + 16) n3 y (inl (omega arith)) ∙ bytes_out (with_bytes m x n1) (x + 8) n2 y (inl (omega arith)) ∙ bytes_out m x n1 y (inl l))
    (λ (l : x + 24 ≤ y). bytes_out (with_bytes (with_bytes m x n1) (x + 8) n2) (x + 16) n3 y (inr (omega arith)) ∙ bytes_out (with_bytes m x n1) (x + 8) n2 y (inr (omega arith)) ∙ bytes_out m x n1 y (inr (omega arith)))
    q

-- they are saved
pub record Kept (I : Emitted) (p : ℕ) (a b : Fine) : Type 0 where
  pub at : b.at ≡ p + 7
  pub x9 : b.regs 9 ≡ end_at I
  pub same : (r : ℕ) → r ≢ 9 → b.regs r ≡ a.regs r
  pub saved : Saved I a b.byte
  pub others : (x : ℕ) → (x < save_at I) ⊎ (save_at I + 24 ≤ x) → b.byte x ≡ a.byte x
  pub outside : SameOutside a b

-- they are back
pub record Brought (I : Emitted) (ret : ℕ) (a b c : Fine) : Type 0 where
  pub at : c.at ≡ ret
  pub x9 : c.regs 9 ≡ end_at I
  pub back : (r : ℕ) → (r ≡ 28) ⊎ ((r ≡ 29) ⊎ (r ≡ 30)) → IsKnown (a.regs r) → c.regs r ≡ a.regs r
  pub same : (r : ℕ) → r ≢ 9 → r ≢ 28 → r ≢ 29 → r ≢ 30 → c.regs r ≡ b.regs r
  pub bytes : c.byte ≡ b.byte
  pub outside : SameOutside b c

module _ (I : Emitted) (laid : IsLaid I) (near : IsNear I) (Q : ℕ → Type 0) where
  reach_to : (q n t : ℕ) → q < n → n ≤ length I.code → save_at I ≤ t → t ≤ end_at I → Reaches q t
  reach_to q n t l k lo hi = let a = laid.text in let b = laid.above in let c = near.near in let d = near.above in record { from = omega arith; to = omega arith; back = omega arith; on = omega arith }

  save_write : (k : ℕ) → k ≤ 16 → CanWrite I (save_at I + k) 8
  save_write k l = let c = near.above in (omega arith, omega arith)

  save_mod : save_at I % 8 ≡ 0
  save_mod = let c = near.above in let z = laid.aligned in omega arith

  save_addr : (k : ℕ) → k < 2048 → (save_at I + wrapped (pos k)) % 2 ^ 64 ≡ save_at I + k
  save_addr k l = let a = near.near in omega arith

  save_known : IsKnown (save_at I)
  save_known = let a = near.near in omega arith

  same3 : (g : ℕ → ℕ) (u t v s r : ℕ) → r ≢ 9 → with_value (with_value (with_value (with_value g 9 u) 9 t) 9 v) 9 s r ≡ g r
  same3 g u t v s r n = with_other (with_value (with_value (with_value g 9 u) 9 t) 9 v) 9 s r n ∙ with_other (with_value (with_value g 9 u) 9 t) 9 v r n ∙ with_other (with_value g 9 u) 9 t r n ∙ with_other g 9 u r n

  pub kept : (p : ℕ) → Stands I.code p (c_save I p) → ((k : ℕ) → p ≤ k → k < p + 7 → Q k) → p + 7 ≤ length I.code → (a : Fine) → a.at ≡ p → a.regs 0 ≡ 0 → Trips I Q (Kept I p a) 7 a
  kept p code clear inside a at z =
      let st = stands_at I.code p a.at (c_save I p) (sym at) code in
      let ab = near.above in
      let r0 = reach_to p (p + 7) (save_at I) (omega arith) inside (omega arith) (omega arith) in
      let r5 = reach_to (p + 5) (p + 7) (end_at I) (omega arith) inside (omega arith) (omega arith) in
      let e0 : save_at I + 0 ≡ save_at I = omega arith in
      la_then 9 p (save_at I) at (omega arith) (omega arith) z r0 st.0 st.1.0 (clear a.at (omega arith) (omega arith)) (clear (suc a.at) (omega arith) (omega arith)) (λ u.
      save_then 9 28 (save_at I) 0 st.1.1.0 (clear _ (omega arith) (omega arith)) save_known (save_addr 0 (omega arith) ∙ e0) save_mod (subst (λ x. CanWrite I x 8) e0 (save_write 0 (omega arith))) (inr (omega arith)) (λ n1 l1 s1.
      save_then 9 29 (save_at I + 8) 8 st.1.1.1.0 (clear _ (omega arith) (omega arith)) save_known (save_addr 8 (omega arith)) (let m = save_mod in omega arith) (save_write 8 (omega arith)) (inr (omega arith)) (λ n2 l2 s2.
      save_then 9 30 (save_at I + 16) 16 st.1.1.1.1.0 (clear _ (omega arith) (omega arith)) save_known (save_addr 16 (omega arith)) (let m = save_mod in omega arith) (save_write 16 (omega arith)) (inr (omega arith)) (λ n3 l3 s3.
      la_then 9 (p + 5) (end_at I) (omega arith) (omega arith) (omega arith) z r5 st.1.1.1.1.1.0 st.1.1.1.1.1.1.0 (clear _ (omega arith) (omega arith)) (clear _ (omega arith) (omega arith)) (λ v.
      finish (record {
        at = omega arith;
        x9 = refl;
        same = λ r n. same3 a.regs u (save_at I) v (end_at I) r n;
        saved = let t = three_saved a.byte (save_at I) (a.regs 28) (a.regs 29) (a.regs 30) n1 n2 n3 l1 l2 l3 (s1 a.byte) (s2 (with_bytes a.byte (save_at I) n1)) (s3 (with_bytes (with_bytes a.byte (save_at I) n1) (save_at I + 8) n2)) in record { r28 = t.0; r29 = t.1; r30 = t.2 };
        others = three_others a.byte (save_at I) n1 n2 n3 l1 l2 l3;
        outside = record { input = refl; out = refl; err = refl; cuts = refl };
      }))))))

  load_same : (g : ℕ → ℕ) (u t v w x y e r : ℕ) → r ≢ 9 → r ≢ 28 → r ≢ 29 → r ≢ 30 → with_value (with_value (with_value (with_value (with_value (with_value (with_value g 9 u) 9 t) 28 v) 29 w) 30 x) 9 y) 9 e r ≡ g r
  load_same g u t v w x y e r n9 n28 n29 n30 =
      with_other (with_value (with_value (with_value (with_value (with_value (with_value g 9 u) 9 t) 28 v) 29 w) 30 x) 9 y) 9 e r n9 ∙ with_other (with_value (with_value (with_value (with_value (with_value g 9 u) 9 t) 28 v) 29 w) 30 x) 9 y r n9 ∙ with_other (with_value (with_value (with_value (with_value g 9 u) 9 t) 28 v) 29 w) 30 x r n30 ∙ with_other (with_value (with_value (with_value g 9 u) 9 t) 28 v) 29 w r n29 ∙ with_other (with_value (with_value g 9 u) 9 t) 28 v r n28 ∙ with_other (with_value g 9 u) 9 t r n9 ∙ with_other g 9 u r n9

  pub brought : (q : ℕ) → Stands I.code q (c_load I q) → ((k : ℕ) → q ≤ k → k < q + 8 → Q k) → q + 8 ≤ length I.code → (ret : ℕ) → ret < length I.code → (a b : Fine) → b.at ≡ q → b.regs 0 ≡ 0 → b.regs 31 ≡ base + 4 * ret → Saved I a b.byte → Trips I Q (Brought I ret a b) 8 b
  brought q code clear inside ret rc a b at z x31 saved =
      let c = stands_at I.code q b.at (c_load I q) (sym at) code in
      let e0 : save_at I + 0 ≡ save_at I = omega arith in
      let ab = near.above in
      let tx = laid.text in
      let bv = laid.above in
      let hi = laid.high in
      let r0 = reach_to q (q + 8) (save_at I) (omega arith) inside (omega arith) (omega arith) in
      let r5 = reach_to (q + 5) (q + 8) (end_at I) (omega arith) inside (omega arith) (omega arith) in
      let k31 : IsKnown (b.regs 31) = omega arith in
      let to31 : (b.regs 31 + wrapped (pos 0)) % 2 ^ 64 ≡ base + 4 * ret = omega arith in
      let sm = save_mod in
      let q8 : (save_at I + 8) % 8 ≡ 0 = omega arith in
      let q16 : (save_at I + 16) % 8 ≡ 0 = omega arith in
      la_then 9 q (save_at I) at (omega arith) (omega arith) z r0 c.0 c.1.0 (clear b.at (omega arith) (omega arith)) (clear (suc b.at) (omega arith) (omega arith)) (λ u.
      restore_then 9 28 (save_at I) 0 (a.regs 28) c.1.1.0 (clear _ (omega arith) (omega arith)) save_known (save_addr 0 (omega arith) ∙ e0) save_mod (inr (subst (λ x. CanWrite I x 8) e0 (save_write 0 (omega arith)))) (omega arith) (omega arith) saved.r28 (λ v28 e28.
      restore_then 9 29 (save_at I + 8) 8 (a.regs 29) c.1.1.1.0 (clear _ (omega arith) (omega arith)) save_known (save_addr 8 (omega arith)) q8 (inr (save_write 8 (omega arith))) (omega arith) (omega arith) saved.r29 (λ v29 e29.
      restore_then 9 30 (save_at I + 16) 16 (a.regs 30) c.1.1.1.1.0 (clear _ (omega arith) (omega arith)) save_known (save_addr 16 (omega arith)) q16 (inr (save_write 16 (omega arith))) (omega arith) (omega arith) saved.r30 (λ v30 e30.
      la_then 9 (q + 5) (end_at I) (omega arith) (omega arith) (omega arith) z r5 c.1.1.1.1.1.0 c.1.1.1.1.1.1.0 (clear _ (omega arith) (omega arith)) (clear _ (omega arith) (omega arith)) (λ y.
      leaps_then 31 ret (pos 0) c.1.1.1.1.1.1.1.0 (clear _ (omega arith) (omega arith)) k31 to31
      (finish (record {
        at = refl;
        x9 = refl;
        back = λ r w k. each u (save_at I) v28 v29 v30 y r w k e28 e29 e30;
        same = λ r n9 n28 n29 n30. load_same b.regs u (save_at I) v28 v29 v30 y (end_at I) r n9 n28 n29 n30;
        bytes = refl;
        outside = record { input = refl; out = refl; err = refl; cuts = refl };
      })))))))
    where
      each : (u t v w x y r : ℕ) → (r ≡ 28) ⊎ ((r ≡ 29) ⊎ (r ≡ 30)) → IsKnown (a.regs r) → (IsKnown (a.regs 28) → v ≡ a.regs 28) → (IsKnown (a.regs 29) → w ≡ a.regs 29) → (IsKnown (a.regs 30) → x ≡ a.regs 30) → with_value (with_value (with_value (with_value (with_value (with_value (with_value b.regs 9 u) 9 t) 28 v) 29 w) 30 x) 9 y) 9 (end_at I) r ≡ a.regs r
      each u t v w x y r (inl q) k e28 e29 e30 = subst (λ r. IsKnown (a.regs r) → with_value (with_value (with_value (with_value (with_value (with_value (with_value b.regs 9 u) 9 t) 28 v) 29 w) 30 x) 9 y) 9 (end_at I) r ≡ a.regs r) (sym q) e28 k
      each u t v w x y r (inr (inl q)) k e28 e29 e30 = subst (λ r. IsKnown (a.regs r) → with_value (with_value (with_value (with_value (with_value (with_value (with_value b.regs 9 u) 9 t) 28 v) 29 w) 30 x) 9 y) 9 (end_at I) r ≡ a.regs r) (sym q) e29 k
      each u t v w x y r (inr (inr q)) k e28 e29 e30 = subst (λ r. IsKnown (a.regs r) → with_value (with_value (with_value (with_value (with_value (with_value (with_value b.regs 9 u) 9 t) 28 v) 29 w) 30 x) 9 y) 9 (end_at I) r ≡ a.regs r) (sym q) e30 k
