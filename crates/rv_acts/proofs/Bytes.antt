-- Lists of bytes, where bytes stand among the machine's, and what is read there.
use Rattle.std.proofs.Common.{◌≡◌, ℕ, zero, suc, ◌+◌, ◌-◌, ◌*◌, ◌<◌, ◌≤◌, List, [], ◌∷◌, ◌++◌, length, take, drop, get_or, Some, Bool, true, false, ◌&&◌, arith, refl, sym, ap, ◌∙◌, subst, ⊎_elim, ◌⊎◌, inl, inr, append_assoc, length-take, length-drop}
use Rattle.std.specs.Prelude.{slice_range, nat_lt, nat_le}
use Rattle.std.proofs.lemmas.Bool.Decides.{nat_tests}
use Rattle.std.proofs.lemmas.List.{get_or_append_left, get_or-append_right, get_or-take, get_or-drop}
use Rattle.rv_machine.specs.declared.hart.Area.{Area}
use Rattle.rv_machine.specs.State.{located_from, overwritten}
use Rattle.rv_run.specs.Seen.{listed_from}
use Rattle.rv_run.specs.Run.{Spot}
use Rattle.rv_acts.specs.Emitted.{Emitted, areas_of, IsLaid, CanRead, CanWrite, spot4, spot_at}
use Rattle.rv_acts.specs.Fine.{AllKnown, with_bytes, Fine, Shown}
use Rattle.rv_acts.specs.Act.{unknowns}

-- ---- lists

pub take_listed : (m : ℕ → ℕ) (n : ℕ) (xs : List ℕ) (x : ℕ) → n ≤ length xs → ((i : ℕ) → i < n → get_or xs i 0 ≡ m (x + i)) → take n xs ≡ listed_from m x n
take_listed m zero [] x l h = refl
take_listed m zero (y ∷ ys) x l h = refl
take_listed m (suc n) [] x l h = absurd (omega arith)
take_listed m (suc n) (y ∷ ys) x l h =
    let first : y ≡ m x = h 0 (omega arith) ∙ ap m (omega arith) in
    let rest = take_listed m n ys (suc x) (omega arith) (λ i q. h (suc i) (omega arith) ∙ ap m (omega arith)) in
    cc

pub range_listed : (m : ℕ → ℕ) (bs : List ℕ) (p x n : ℕ) → p + n ≤ length bs → ((i : ℕ) → i < n → get_or bs (p + i) 0 ≡ m (x + i)) → slice_range bs p (p + n) ≡ listed_from m x n
range_listed m bs p x n l h =
    let e : p + n - p ≡ n = omega arith in
    ap (λ k. take k (drop p bs)) e ∙ take_listed m n (drop p bs) x (simp length-drop (omega arith)) (λ i q. get_or-drop p bs i 0 ∙ h i q)

module _ (k : ℕ) (new bs : List ℕ) (room : k + length new ≤ length bs) where
  take_is : length (take k bs) ≡ k
  take_is = simp length-take (omega arith)

  parts : overwritten k new bs ≡ take k bs ++ (new ++ drop (k + length new) bs)
  parts = append_assoc (take k bs) new (drop (k + length new) bs)

  pub over_in : (i : ℕ) → k ≤ i → i < k + length new → get_or (overwritten k new bs) i 0 ≡ get_or new (i - k) 0
  over_in i l h = ap (λ xs. get_or xs i 0) parts ∙ get_or-append_right (take k bs) (new ++ drop (k + length new) bs) k i 0 take_is l ∙ get_or_append_left new (drop (k + length new) bs) 0 (i - k) (omega arith)

  pub over_out : (i : ℕ) → (i < k) ⊎ (k + length new ≤ i) → get_or (overwritten k new bs) i 0 ≡ get_or bs i 0
  over_out i q = ap (λ xs. get_or xs i 0) parts ∙ ⊎_elim
      (λ (h : i < k). get_or_append_left (take k bs) (new ++ drop (k + length new) bs) 0 i (let t = take_is in omega arith) ∙ get_or-take k bs i 0 h)
      (λ (h : k + length new ≤ i). get_or-append_right (take k bs) (new ++ drop (k + length new) bs) k i 0 take_is (omega arith) ∙ get_or-append_right new (drop (k + length new) bs) (length new) (i - k) 0 refl (omega arith) ∙ get_or-drop (k + length new) bs (i - k - length new) 0 ∙ ap (λ j. get_or bs j 0) (omega arith))
      q

pub bytes_in : (m : ℕ → ℕ) (x : ℕ) (new : List ℕ) (y : ℕ) → x ≤ y → y < x + length new → with_bytes m x new y ≡ get_or new (y - x) 0
bytes_in m x new y l h =
    let a : nat_le x y ≡ true = grind (arith, nat_tests) in
    let b : nat_lt y (x + length new) ≡ true = grind (arith, nat_tests) in
    rw (a, b) refl

pub bytes_out : (m : ℕ → ℕ) (x : ℕ) (new : List ℕ) (y : ℕ) → (y < x) ⊎ (x + length new ≤ y) → with_bytes m x new y ≡ m y
bytes_out m x new y q = ⊎_elim
    (λ (h : y < x). let a : nat_le x y ≡ false = grind (arith, nat_tests) in rw a refl)
    (λ (h : x + length new ≤ y). let a : nat_lt y (x + length new) ≡ false = grind (arith, nat_tests) in let b : (nat_le x y && false) ≡ false = both_off (nat_le x y) in rw (a, b) refl)
    q
  where
    both_off : (t : Bool) → (t && false) ≡ false
    both_off true = refl
    both_off false = refl

pub unknowns_length : (n : ℕ) → length (unknowns n) ≡ n
unknowns_length zero = refl
unknowns_length (suc n) = ap suc (unknowns_length n)

pub unknowns_at : (n i : ℕ) → i < n → get_or (unknowns n) i 0 ≡ 256
unknowns_at zero i l = absurd (omega arith)
unknowns_at (suc n) zero l = refl
unknowns_at (suc n) (suc i) l = unknowns_at n i (omega arith)

-- ---- where bytes stand

abbrev pub areas3 : ℕ → ℕ → ℕ → ℕ → ℕ → List Area
areas3 T D W R L = record { address = 65536; size = 4 * T; flags = 5 } ∷ record { address = R; size = L; flags = 4 } ∷ record { address = D - 8192; size = 8192 + 8 * W; flags = 6 } ∷ []

pub spot_high : (T D R L x : ℕ) → D - 8192 ≤ x → spot4 T D R L x ≡ 4 * T + L + (x - (D - 8192))
spot_high T D R L x l = let a : nat_lt x (D - 8192) ≡ false = grind (arith, nat_tests) in rw a refl

pub spot_low : (T D R L x : ℕ) → x < D - 8192 → spot4 T D R L x ≡ 4 * T + (x - R)
spot_low T D R L x l = let a : nat_lt x (D - 8192) ≡ true = grind (arith, nat_tests) in rw a refl

found_segment : (T D W R L x n : ℕ) → 8192 ≤ D → D - 8192 ≤ x → x + n ≤ D + 8 * W → located_from 0 (areas3 T D W R L) 2 x n ≡ Some (4 * T + L + (x - (D - 8192)))
found_segment T D W R L x n l h k =
    let f : nat_le (D - 8192) x ≡ true = grind (arith, nat_tests) in
    let g : nat_le (x + n) (D - 8192 + (8192 + 8 * W)) ≡ true = grind (arith, nat_tests) in
    rw (f, g) (ap (λ x. Some x) (omega arith))

found_data : (T D W R L x n : ℕ) → 65536 + 4 * T ≤ R → R + L + 8192 ≤ D → 0 < n → D - 8192 ≤ x → x + n ≤ D + 8 * W → located_from 0 (areas3 T D W R L) 4 x n ≡ Some (4 * T + L + (x - (D - 8192)))
found_data T D W R L x n l k z h e =
    let f : nat_le (D - 8192) x ≡ true = grind (arith, nat_tests) in
    let g : nat_le (x + n) (D - 8192 + (8192 + 8 * W)) ≡ true = grind (arith, nat_tests) in
    let a : nat_le 65536 x ≡ true = grind (arith, nat_tests) in
    let b : nat_le (x + n) (65536 + 4 * T) ≡ false = grind (arith, nat_tests) in
    let c : nat_le R x ≡ true = grind (arith, nat_tests) in
    let d : nat_le (x + n) (R + L) ≡ false = grind (arith, nat_tests) in
    rw (a, b, c, d, f, g) (ap (λ x. Some x) (omega arith))

found_lit : (T D W R L x n : ℕ) → 65536 + 4 * T ≤ R → 0 < n → R ≤ x → x + n ≤ R + L → located_from 0 (areas3 T D W R L) 4 x n ≡ Some (4 * T + (x - R))
found_lit T D W R L x n l z h e =
    let a1 : nat_le (x + n) (65536 + 4 * T) ≡ false = grind (arith, nat_tests) in
    let b1 : nat_le 65536 x ≡ true = grind (arith, nat_tests) in
    let c1 : nat_le R x ≡ true = grind (arith, nat_tests) in
    let c2 : nat_le (x + n) (R + L) ≡ true = grind (arith, nat_tests) in
    rw (b1, a1, c1, c2) (ap (λ x. Some x) (omega arith))

pub found_text : (T D W R L n : ℕ) → n < T → located_from 0 (areas3 T D W R L) 1 (65536 + 4 * n) 4 ≡ Some (4 * n)
found_text T D W R L n h =
    let e : 65536 + 4 * n - 65536 ≡ 4 * n = omega arith in
    let f : nat_le 65536 (65536 + 4 * n) ≡ true = grind (arith, nat_tests) in
    let g : nat_le (65536 + 4 * n + 4) (65536 + 4 * T) ≡ true = grind (arith, nat_tests) in
    rw (f, g, e) (ap (λ x. Some x) (omega arith))

module _ (I : Emitted) (laid : IsLaid I) where
  pub can_read_found : (x n : ℕ) → 0 < n → CanRead I x n → located_from 0 (areas_of I) 4 x n ≡ Some (spot_at I x)
  can_read_found x n z (inl h) = found_lit (length I.code) I.entries.arena I.entries.arena_words I.place (length I.literals) x n laid.text z h.0 h.1 ∙ ap (λ k. Some k) (sym (spot_low (length I.code) I.entries.arena I.place (length I.literals) x (let a = laid.above in let b = h.1 in omega arith)))
  can_read_found x n z (inr h) = found_data (length I.code) I.entries.arena I.entries.arena_words I.place (length I.literals) x n laid.text laid.above z h.0 h.1 ∙ ap (λ k. Some k) (sym (spot_high (length I.code) I.entries.arena I.place (length I.literals) x h.0))

  pub can_write_found : (x n : ℕ) → CanWrite I x n → located_from 0 (areas_of I) 2 x n ≡ Some (spot_at I x)
  can_write_found x n h = found_segment (length I.code) I.entries.arena I.entries.arena_words I.place (length I.literals) x n (let a = laid.above in omega arith) h.0 h.1 ∙ ap (λ k. Some k) (sym (spot_high (length I.code) I.entries.arena I.place (length I.literals) x h.0))

  -- a range stands in a range
  pub spot_in : (x n i : ℕ) → CanRead I x n → i < n → (spot_at I (x + i) ≡ spot_at I x + i) × (spot_at I x + n ≤ 4 * length I.code + length I.literals + 8192 + 8 * I.entries.arena_words)
  spot_in x n i (inl h) l =
      let a = laid.above in let b = h.0 in let c = h.1 in
      let e = spot_low (length I.code) I.entries.arena I.place (length I.literals) x (omega arith) in
      let f = spot_low (length I.code) I.entries.arena I.place (length I.literals) (x + i) (omega arith) in
      (f ∙ (let e' : 4 * length I.code + (x + i - I.place) ≡ 4 * length I.code + (x - I.place) + i = omega arith in e') ∙ ap (λ k. k + i) (sym e), subst (λ k. k + n ≤ 4 * length I.code + length I.literals + 8192 + 8 * I.entries.arena_words) (sym e) (omega arith))
  spot_in x n i (inr h) l =
      let a = laid.above in let b = h.0 in let c = h.1 in
      let e = spot_high (length I.code) I.entries.arena I.place (length I.literals) x (omega arith) in
      let f = spot_high (length I.code) I.entries.arena I.place (length I.literals) (x + i) (omega arith) in
      (f ∙ (let e' : 4 * length I.code + length I.literals + (x + i - (I.entries.arena - 8192)) ≡ 4 * length I.code + length I.literals + (x - (I.entries.arena - 8192)) + i = omega arith in e') ∙ ap (λ k. k + i) (sym e), subst (λ k. k + n ≤ 4 * length I.code + length I.literals + 8192 + 8 * I.entries.arena_words) (sym e) (omega arith))

  pub read_one : (x n i : ℕ) → CanRead I x n → i < n → CanRead I (x + i) 1
  read_one x n i (inl h) l = let b = h.0 in let c = h.1 in inl (omega arith, omega arith)
  read_one x n i (inr h) l = let b = h.0 in let c = h.1 in inr (omega arith, omega arith)

  -- what is read is what is known
  pub range_is : (a : Fine) (s : Spot) → Shown I a s → (x n : ℕ) → 0 < n → CanRead I x n → AllKnown a.byte x n → slice_range s.world.state.bytes (spot_at I x) (spot_at I x + n) ≡ listed_from a.byte x n
  range_is a s m x n z h k =
      let w = (spot_in x n 0 h z).1 in
      let y = m.size in
      range_listed a.byte s.world.state.bytes (spot_at I x) x n (omega arith) (λ i l. ap (λ k. get_or s.world.state.bytes k 0) (sym (spot_in x n i h l).0) ∙ m.byte (x + i) (read_one x n i h l) (k i l))
