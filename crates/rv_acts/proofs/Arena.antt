-- The words of the arena below x8: what is steady keeps them, and they are what is seen.
use Rattle.std.proofs.Common.{◌≡◌, ℕ, zero, suc, ◌+◌, ◌-◌, ◌*◌, ◌/◌, ◌%◌, ◌<◌, ◌≤◌, ◌==◌, List, [], ◌∷◌, length, Some, None, true, false, arith, refl, sym, ap, ◌∙◌, subst, inr, if◌then◌else◌}
use Rattle.std.specs.Prelude.{slice_get, slice_range, nat_le, unwrap_or}
use Rattle.std.specs.Int.{w64, from_le_bytes}
use Rattle.std.proofs.lemmas.Bool.Decides.{nat_tests}
use Rattle.std.proofs.lemmas.Option.{slice_get_within}
use Rattle.rv_machine.specs.State.{reg, located, located_from}
use Rattle.rv_machine.specs.Step.{double_found}
use Rattle.rv_run.specs.Heap.{heap_word}
use Rattle.rv_run.specs.Seen.{listed_from, word_at, blocks, memory_of}
use Rattle.rv_run.specs.Run.{Spot}
use Rattle.rv_acts.specs.Emitted.{Emitted, IsLaid, spot_at}
use Rattle.rv_acts.specs.Fine.{Fine, Shown}
use Rattle.rv_acts.specs.Trip.{Steady, WordIs, Holds}
use Rattle.rv_acts.specs.Laws.{Watches}
use Rattle.rv_acts.proofs.Bytes.{areas3, spot_high, range_is}

listed_same : (m m' : ℕ → ℕ) (x n : ℕ) → ((i : ℕ) → i < n → m' (x + i) ≡ m (x + i)) → listed_from m' x n ≡ listed_from m x n
listed_same m m' x zero h = refl
listed_same m m' x (suc n) h =
    let first : m' x ≡ m x = let e : x + 0 ≡ x = omega arith in subst (λ y. m' y ≡ m y) e (h 0 (omega arith)) in
    let rest = listed_same m m' (suc x) n (λ i l. let e : x + suc i ≡ suc x + i = omega arith in subst (λ y. m' y ≡ m y) e (h (suc i) (omega arith))) in
    cc

pub word_same : (m m' : ℕ → ℕ) (x w : ℕ) → ((i : ℕ) → i < 8 → m' (x + i) ≡ m (x + i)) → WordIs m x w → WordIs m' x w
word_same m m' x w h k = record { known = λ i l. subst (λ v. v < 256) (sym (h i l)) (k.known i l); is = ap (from_le_bytes w64) (listed_same m m' x 8 h) ∙ k.is }

pub holds_keep : (I : Emitted) (ws : List ℕ) (a b : Fine) → Steady I a b → Holds I ws a → Holds I ws b
holds_keep I ws a b s h = record {
  x8 = s.x8 ∙ h.x8;
  room = h.room;
  mem = λ j w e. let l = slice_get_within ws j w e in let z = h.x8 in word_same a.byte b.byte (I.entries.arena + 8 * j) w (λ i q. s.low (I.entries.arena + 8 * j + i) (inr (omega arith, omega arith))) (h.mem j w e);
}

-- a word of the arena is found whatever right is asked for, where none is asked for
found_word : (T D W R L j : ℕ) → 65536 + 4 * T ≤ R → R + L + 8192 ≤ D → j < W → located_from 0 (areas3 T D W R L) 0 (D + 8 * j) 8 ≡ Some (4 * T + L + (D + 8 * j - (D - 8192)))
found_word T D W R L j l k h =
    let f : nat_le (D - 8192) (D + 8 * j) ≡ true = grind (arith, nat_tests) in
    let g : nat_le (D + 8 * j + 8) (D - 8192 + (8192 + 8 * W)) ≡ true = grind (arith, nat_tests) in
    let a : nat_le 65536 (D + 8 * j) ≡ true = grind (arith, nat_tests) in
    let b : nat_le (D + 8 * j + 8) (65536 + 4 * T) ≡ false = grind (arith, nat_tests) in
    let c : nat_le R (D + 8 * j) ≡ true = grind (arith, nat_tests) in
    let d : nat_le (D + 8 * j + 8) (R + L) ≡ false = grind (arith, nat_tests) in
    rw (a, b, c, d, f, g) (ap (λ x. Some x) (omega arith))

-- a word that is known is the machine's
pub word_read : (I : Emitted) (laid : IsLaid I) (a : Fine) (s : Spot) → Shown I a s → (j w : ℕ) → j < I.entries.arena_words → WordIs a.byte (I.entries.arena + 8 * j) w → heap_word I.entries.arena s.world.state j ≡ Some w
word_read I laid a s m j w l k =
    let y = laid.aligned in
    let q : ((I.entries.arena + 8 * j) % 8 == 0) ≡ true = grind (arith, nat_tests) in
    let high = spot_high (length I.code) I.entries.arena I.place (length I.literals) (I.entries.arena + 8 * j) (omega arith) in
    let f : located s.world.state 0 (I.entries.arena + 8 * j) 8 ≡ Some (spot_at I (I.entries.arena + 8 * j)) = rw m.areas (found_word (length I.code) I.entries.arena I.entries.arena_words I.place (length I.literals) j laid.text laid.above l ∙ ap (λ x. Some x) (sym high)) in
    let g : slice_range s.world.state.bytes (spot_at I (I.entries.arena + 8 * j)) (spot_at I (I.entries.arena + 8 * j) + 8) ≡ listed_from a.byte (I.entries.arena + 8 * j) 8 = range_is I laid a s m (I.entries.arena + 8 * j) 8 (omega arith) (inr (omega arith, omega arith)) k.known in
    ap (λ b. if b then double_found (located s.world.state 0 (I.entries.arena + 8 * j) 8) s.world.state else None) q ∙ ap (λ o. double_found o s.world.state) f ∙ ap (λ bs. Some (from_le_bytes w64 bs)) g ∙ ap (λ x. Some x) k.is

listed_is : (f : ℕ → ℕ) (ws : List ℕ) (i : ℕ) → ((j w : ℕ) → slice_get ws j ≡ Some w → f (i + j) ≡ w) → listed_from f i (length ws) ≡ ws
listed_is f [] i h = refl
listed_is f (w ∷ ws) i h =
    let first : f i ≡ w = subst (λ k. f k ≡ w) (let e : i + 0 ≡ i = omega arith in e) (h 0 w refl) in
    let rest : listed_from f (suc i) (length ws) ≡ ws = listed_is f ws (suc i) (λ j v e. let q : i + suc j ≡ suc i + j = omega arith in subst (λ k. f k ≡ v) q (h (suc j) v e)) in
    cc

pub holds_sees : (I : Emitted) (laid : IsLaid I) (ws : List ℕ) (a : Fine) (s : Spot) → Shown I a s → Holds I ws a → memory_of I.entries s.world.state ≡ blocks I.entries 0 ws
holds_sees I laid ws a s m h =
    let high = laid.high in
    let x8 = h.x8 in
    let room = h.room in
    let r : reg s.world.state 8 ≡ I.entries.arena + 8 * length ws = m.regs 8 (omega arith) (omega arith) ∙ h.x8 in
    let n : (reg s.world.state 8 - I.entries.arena) / 8 ≡ length ws = omega arith in
    ap (blocks I.entries 0) (ap (listed_from (word_at I.entries s.world.state) 0) n ∙ listed_is (word_at I.entries s.world.state) ws 0 (λ j w e. word_here j w (slice_get_within ws j w e) (h.mem j w e)))
  where
    word_here : (j w : ℕ) → j < length ws → WordIs a.byte (I.entries.arena + 8 * j) w → word_at I.entries s.world.state (0 + j) ≡ w
    word_here j w l k =
        let room = h.room in
        let z : 0 + j ≡ j = omega arith in
        ap (word_at I.entries s.world.state) z ∙ ap (λ o. unwrap_or o 0) (word_read I laid a s m j w (omega arith) k)

pub arena_watches : (I : Emitted) (laid : IsLaid I) (ws : List ℕ) → Watches I (blocks I.entries 0 ws) (Holds I ws)
arena_watches I laid ws = record { keep = holds_keep I ws; sees = holds_sees I laid ws }
