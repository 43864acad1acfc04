-- The routine that compares two strings does so.
use Rattle.std.proofs.Common.{◌≡◌, ◌≢◌, ℕ, zero, suc, ◌+◌, ◌-◌, ◌*◌, ◌%◌, ◌^◌, ◌<◌, ◌≤◌, pos, negsuc, List, [], ◌∷◌, ◌++◌, length, get_or, Some, Bool, true, false, not, ◌==◌, arith, refl, sym, ap, ◌∙◌, subst, ⊎_elim, ◌⊎◌, inl, inr}
use Rattle.std.specs.Prelude.{slice_get, nat_lt}
use Rattle.std.specs.Int.{w8, w32, from_le_bytes}
use Rattle.std.proofs.lemmas.Bool.{cases_lt}
use Rattle.std.proofs.lemmas.Bool.Decides.{nat_tests}
use Rattle.rv_isa.specs.declared.table.Op.TheVariants.{Addi, Slli, Sub, Beq, Bne, Bgeu, Bltu, Lbu, Lwu}
use Rattle.rv_isa.specs.Word.{ins}
use Rattle.rv_machine.specs.Step.{wrapped, is_less}
use Rattle.simulation.proofs.Heaps.{with_other, eq_cases}
use Rattle.rv_run.specs.Seen.{listed_from}
use Rattle.rv_acts.specs.Emitted.{Emitted, base, IsLaid, CanRead}
use Rattle.rv_acts.specs.Fine.{IsKnown, AllKnown, with_value, Fine}
use Rattle.rv_acts.specs.Act.{put, go}
use Rattle.rv_acts.proofs.Arena.{word_same}
use Rattle.rv_pieces.specs.Stand.{Stands}
use Rattle.rv_pieces.specs.Route.{Trips}
use Rattle.rv_pieces.proofs.Standing.{zero_known, stands_left, stands_right, stands_at, stands_within}
use Rattle.rv_pieces.proofs.Then.{finish, within, then_on, to_goal, alu_then, load_then, falls_then, takes_then, turns_then}
use Rattle.std.specs.Prelude.{if◌then◌else◌, drop}
use Rattle.rv_isa.specs.declared.table.Op.TheVariants.{Slt}
use Rattle.rv_machine.specs.Step.{bit_of}
use Rattle.rv_acts.specs.Emitted.{IsQuiet}
use Rattle.routine_laws.specs.Places.{save_at, end_at, IsNear, IsClear}
use Rattle.routine_laws.specs.Strings.{string_words, StringIn, SameOutside}
use Rattle.routine_laws.specs.Concat.{c_save, c_load, Strung}
use Rattle.routine_laws.specs.Compare.{order, k_lengths, k_loop, k_differ, compare_code, Compared, compare_most}
use Rattle.routine_laws.proofs.Strings.{half_word, some_left}
use Rattle.routine_laws.proofs.CopyBytes.{outside_then}
use Rattle.routine_laws.proofs.Keeping.{saved_same, Kept, Brought, kept, brought}

-- ---- the order

drop_none : (xs : List ℕ) → drop 0 xs ≡ xs
drop_none [] = refl
drop_none (x ∷ xs) = refl

drop_get : (xs : List ℕ) (i : ℕ) → i < length xs → drop i xs ≡ get_or xs i 0 ∷ drop (suc i) xs
drop_get [] i l = absurd (omega arith)
drop_get (x ∷ xs) zero l = ap (λ ys. x ∷ ys) (sym (drop_none xs))
drop_get (x ∷ xs) (suc i) l = drop_get xs i (omega arith)

drop_all : (xs : List ℕ) (i : ℕ) → i ≡ length xs → drop i xs ≡ []
drop_all [] i e = ap (λ k. drop {A = ℕ} k []) e
drop_all (x ∷ xs) zero e = absurd (omega arith)
drop_all (x ∷ xs) (suc i) e = drop_all xs i (omega arith)

-- what the lengths say
abbrev by_length : ℕ → ℕ → ℕ
by_length m n = if nat_lt m n then 1 else if nat_lt n m then 5 else 3

length_less : (m n : ℕ) → m < n → by_length m n ≡ 1
length_less m n l = let t : nat_lt m n ≡ true = grind (arith, nat_tests) in rw t refl

length_same : (m n : ℕ) → m ≡ n → by_length m n ≡ 3
length_same m n e =
    let t : nat_lt m n ≡ false = grind (arith, nat_tests) in
    let u : nat_lt n m ≡ false = grind (arith, nat_tests) in
    rw (t, u) refl

length_more : (m n : ℕ) → n < m → by_length m n ≡ 5
length_more m n l =
    let t : nat_lt m n ≡ false = grind (arith, nat_tests) in
    let u : nat_lt n m ≡ true = grind (arith, nat_tests) in
    rw (t, u) refl

-- where one ends, the lengths decide
order_end : (us bs : List ℕ) (i : ℕ) → i ≤ length us → i ≤ length bs → (i ≡ length us) ⊎ (i ≡ length bs) → order (drop i us) (drop i bs) ≡ by_length (length us) (length bs)
order_end us bs i l k (inl e) = ⊎_elim
    (λ (q : i < length bs). ap (λ xs. order xs (drop i bs)) (drop_all us i e) ∙ ap (order []) (drop_get bs i q) ∙ sym (length_less (length us) (length bs) (omega arith)))
    (λ (q : length bs ≤ i). ap (λ xs. order xs (drop i bs)) (drop_all us i e) ∙ ap (order []) (drop_all bs i (omega arith)) ∙ sym (length_same (length us) (length bs) (omega arith)))
    (cases_lt i (length bs))
order_end us bs i l k (inr e) = ⊎_elim
    (λ (q : i < length us). ap (λ xs. order xs (drop i bs)) (drop_get us i q) ∙ ap (order (get_or us i 0 ∷ drop (suc i) us)) (drop_all bs i e) ∙ sym (length_more (length us) (length bs) (omega arith)))
    (λ (q : length us ≤ i). ap (λ xs. order xs (drop i bs)) (drop_all us i (omega arith)) ∙ ap (order []) (drop_all bs i e) ∙ sym (length_same (length us) (length bs) (omega arith)))
    (cases_lt i (length us))

order_step : (us bs : List ℕ) (i : ℕ) → i < length us → i < length bs → order (drop i us) (drop i bs) ≡ (if nat_lt (get_or us i 0) (get_or bs i 0) then 1 else if nat_lt (get_or bs i 0) (get_or us i 0) then 5 else order (drop (suc i) us) (drop (suc i) bs))
order_step us bs i l k = ap (λ xs. order xs (drop i bs)) (drop_get us i l) ∙ ap (order (get_or us i 0 ∷ drop (suc i) us)) (drop_get bs i k)

step_same : (u v x : ℕ) → u ≡ v → (if nat_lt u v then 1 else if nat_lt v u then 5 else x) ≡ x
step_same u v x e =
    let t : nat_lt u v ≡ false = grind (arith, nat_tests) in
    let s : nat_lt v u ≡ false = grind (arith, nat_tests) in
    rw (t, s) refl

step_less : (u v x : ℕ) → u < v → (if nat_lt u v then 1 else if nat_lt v u then 5 else x) ≡ 1
step_less u v x l = let t : nat_lt u v ≡ true = grind (arith, nat_tests) in rw t refl

step_more : (u v x : ℕ) → v < u → (if nat_lt u v then 1 else if nat_lt v u then 5 else x) ≡ 5
step_more u v x l =
    let t : nat_lt u v ≡ false = grind (arith, nat_tests) in
    let s : nat_lt v u ≡ true = grind (arith, nat_tests) in
    rw (t, s) refl

below : (m n : ℕ) → m < n → n < 4294967296 → bit_of (is_less m n) ≡ 1
below m n l h = let t : is_less m n ≡ true = grind (arith, nat_tests) in rw t refl

not_below : (m n : ℕ) → n ≤ m → m < 4294967296 → bit_of (is_less m n) ≡ 0
not_below m n l h = let t : is_less m n ≡ false = grind (arith, nat_tests) in rw t refl

-- ---- a string at hand

record Text (I : Emitted) (x : ℕ) (cs : List ℕ) (m : ℕ → ℕ) : Type 0 where
  aligned : x % 8 ≡ 0
  high : x + 8 + length cs < 2147545088
  len_reads : CanRead I (x + 4) 4
  len : AllKnown m (x + 4) 4 × (from_le_bytes w32 (listed_from m (x + 4) 4) ≡ length cs)
  reads : (i : ℕ) → i < length cs → CanRead I (x + (8 + i)) 1
  byte : (i : ℕ) → i < length cs → (m (x + (8 + i)) ≡ get_or cs i 0) × (get_or cs i 0 < 256)

text_of : (I : Emitted) → IsLaid I → IsNear I → (top x : ℕ) (cs : List ℕ) (m m' : ℕ → ℕ) → top ≤ end_at I → StringIn I top m x cs → ((y : ℕ) → (y < save_at I) ⊎ (save_at I + 24 ≤ y) → m' y ≡ m y) → Text I x cs m'
text_of I laid near top x cs m m' h s others =
    let w = enough (length cs) in
    let hi = high s.place in
    record {
      aligned = s.aligned;
      high = omega arith;
      len_reads = reads 4 4 (omega arith) s.place;
      len = half_word m' x 2 (length cs) (word_same m m' x (2 + 4294967296 * length cs) (λ i l. others (x + i) (apart i (omega arith) s.place)) s.here.header) (omega arith) (omega arith);
      reads = λ i l. reads (8 + i) 1 (omega arith) s.place;
      byte = λ i l. let q : x + (8 + i) ≡ x + 8 + i = omega arith in (others (x + (8 + i)) (apart (8 + i) (omega arith) s.place) ∙ ap m q ∙ s.here.bytes i (omega arith), s.small i);
    }
  where
    enough : (n : ℕ) → n ≤ 8 * string_words n
    enough n = omega arith

    high : ((I.place ≤ x) × (x + 8 + 8 * string_words (length cs) ≤ I.place + length I.literals)) ⊎ ((I.entries.arena ≤ x) × (x + 8 + 8 * string_words (length cs) ≤ top)) → x + 8 + 8 * string_words (length cs) < 2147545088
    high (inl q) = let a = laid.above in let n = near.near in let c = q.1 in omega arith
    high (inr q) = let n = near.near in let b = q.1 in omega arith

    reads : (k n : ℕ) → k + n ≤ 8 + 8 * string_words (length cs) → ((I.place ≤ x) × (x + 8 + 8 * string_words (length cs) ≤ I.place + length I.literals)) ⊎ ((I.entries.arena ≤ x) × (x + 8 + 8 * string_words (length cs) ≤ top)) → CanRead I (x + k) n
    reads k n l (inl q) = let b = q.0 in let c = q.1 in inl (omega arith, omega arith)
    reads k n l (inr q) = let a = q.0 in let b = q.1 in inr (omega arith, omega arith)

    apart : (k : ℕ) → k < 8 + 8 * string_words (length cs) → ((I.place ≤ x) × (x + 8 + 8 * string_words (length cs) ≤ I.place + length I.literals)) ⊎ ((I.entries.arena ≤ x) × (x + 8 + 8 * string_words (length cs) ≤ top)) → (x + k < save_at I) ⊎ (save_at I + 24 ≤ x + k)
    apart k l (inl q) = let a = laid.above in let n = near.above in let c = q.1 in inl (omega arith)
    apart k l (inr q) = let a = q.0 in let n = near.above in inr (omega arith)

-- ---- the loop

-- i bytes are equal, and k are left of the shorter
record Left (us bs : List ℕ) (xa xb p i k : ℕ) (b c : Fine) : Type 0 where
  at : c.at ≡ p + 17
  x5 : c.regs 5 ≡ xa + i
  x6 : c.regs 6 ≡ xb + i
  x29 : c.regs 29 ≡ k
  x7 : c.regs 7 ≡ by_length (length us) (length bs)
  first : i + k ≤ length us
  second : i + k ≤ length bs
  one : (i + k ≡ length us) ⊎ (i + k ≡ length bs)
  so_far : order us bs ≡ order (drop i us) (drop i bs)
  bytes : (y : ℕ) → c.byte y ≡ b.byte y
  same : (r : ℕ) → r ≢ 5 → r ≢ 6 → r ≢ 7 → r ≢ 28 → r ≢ 29 → r ≢ 30 → c.regs r ≡ b.regs r
  outside : SameOutside b c

record Decided (us bs : List ℕ) (p : ℕ) (b c : Fine) : Type 0 where
  at : c.at ≡ p + 29
  x5 : c.regs 5 ≡ order us bs
  bytes : (y : ℕ) → c.byte y ≡ b.byte y
  same : (r : ℕ) → r ≢ 5 → r ≢ 6 → r ≢ 7 → r ≢ 28 → r ≢ 29 → r ≢ 30 → c.regs r ≡ b.regs r
  outside : SameOutside b c

-- the pieces of the routine
record Parts (I : Emitted) (p : ℕ) : Type 0 where
  save : Stands I.code p (c_save I p)
  lengths : Stands I.code (p + 7) k_lengths
  loop : Stands I.code (p + 17) k_loop
  differ : Stands I.code (p + 25) k_differ
  load : Stands I.code (p + 29) (c_load I (p + 29))

parts : (I : Emitted) (p : ℕ) → Stands I.code p (compare_code I p) → Parts I p
parts I p st =
    let s1 = stands_right I.code p (c_save I p) (k_lengths ++ (k_loop ++ (k_differ ++ c_load I (p + 29)))) st in
    let s2 = stands_at I.code (p + 7 + 10) (p + 17) (k_loop ++ (k_differ ++ c_load I (p + 29))) (omega arith) (stands_right I.code (p + 7) k_lengths (k_loop ++ (k_differ ++ c_load I (p + 29))) s1) in
    let s3 = stands_at I.code (p + 17 + 8) (p + 25) (k_differ ++ c_load I (p + 29)) (omega arith) (stands_right I.code (p + 17) k_loop (k_differ ++ c_load I (p + 29)) s2) in
    let s4 = stands_at I.code (p + 25 + 4) (p + 29) (c_load I (p + 29)) (omega arith) (stands_right I.code (p + 25) k_differ (c_load I (p + 29)) s3) in
    record {
      save = stands_left I.code p (c_save I p) (k_lengths ++ (k_loop ++ (k_differ ++ c_load I (p + 29)))) st;
      lengths = stands_left I.code (p + 7) k_lengths (k_loop ++ (k_differ ++ c_load I (p + 29))) s1;
      loop = stands_left I.code (p + 17) k_loop (k_differ ++ c_load I (p + 29)) s2;
      differ = stands_left I.code (p + 25) k_differ (c_load I (p + 29)) s3;
      load = s4;
    }

module _ (I : Emitted) (laid : IsLaid I) (near : IsNear I) (p : ℕ) (code : Parts I p) (clear : IsClear I p 37) (inside : p + 37 ≤ length I.code) (us bs : List ℕ) (xa xb : ℕ) (b : Fine) (z0 : b.regs 0 ≡ 0) (ta : Text I xa us b.byte) (tb : Text I xb bs b.byte) where
  pc_low : base + 4 * (p + 37) < 2147545088
  pc_low = let a = laid.text in let c = laid.above in let n = near.near in omega arith

  abbrev Goal : Fine → Type 0
  Goal = Decided us bs p b

  -- the answer stands in x7
  answer : (d : ℕ) (c : Fine) → c.at ≡ p + 28 → c.regs 7 ≡ d → d < 6 → c.regs 0 ≡ 0 → order us bs ≡ d → ((y : ℕ) → c.byte y ≡ b.byte y) → ((r : ℕ) → r ≢ 5 → r ≢ 6 → r ≢ 7 → r ≢ 28 → r ≢ 29 → r ≢ 30 → c.regs r ≡ b.regs r) → SameOutside b c → Trips I (IsQuiet I) (Decided us bs p b) 1 c
  answer d c at x7 l z e bytes same outside =
      let st = stands_at I.code (p + 25) (p + 25) k_differ refl code.differ in
      let q : suc (suc (suc (p + 25))) ≡ c.at = omega arith in
      let k7 : IsKnown (c.regs 7) = omega arith in
      let v : (c.regs 7 + 0) % 2 ^ 64 ≡ d = omega arith in
      alu_then (ins Addi 5 7 0 (pos 0)) d (subst (λ n. slice_get I.code n ≡ Some (ins Addi 5 7 0 (pos 0))) q st.1.1.1.0) (clear c.at (omega arith) (omega arith)) k7 (zero_known (c.regs 0) z) (ap (λ x. Some x) v) (omega arith) (omega arith)
      (finish (record {
        at = omega arith;
        x5 = sym e;
        bytes = bytes;
        same = λ r n5 n6 n7 n28 n29 n30. with_other c.regs 5 d r n5 ∙ same r n5 n6 n7 n28 n29 n30;
        outside = record { input = outside.input; out = outside.out; err = outside.err; cuts = outside.cuts };
      }))

  -- two bytes differ
  differ : (u v : ℕ) (c : Fine) → c.at ≡ p + 25 → c.regs 28 ≡ u → c.regs 30 ≡ v → u < 256 → v < 256 → u ≢ v → c.regs 0 ≡ 0 → (u < v → order us bs ≡ 1) → (v < u → order us bs ≡ 5) → ((y : ℕ) → c.byte y ≡ b.byte y) → ((r : ℕ) → r ≢ 5 → r ≢ 6 → r ≢ 7 → r ≢ 28 → r ≢ 29 → r ≢ 30 → c.regs r ≡ b.regs r) → SameOutside b c → Trips I (IsQuiet I) (Decided us bs p b) 4 c
  differ u v c at x28 x30 lu lv n z less more bytes same outside =
      let st = stands_at I.code (p + 25) c.at k_differ (sym at) code.differ in
      let pc = pc_low in
      let k0 = zero_known (c.regs 0) z in
      let k28 : IsKnown (c.regs 28) = omega arith in
      let k30 : IsKnown (c.regs 30) = omega arith in
      let v1 : (c.regs 0 + 1) % 2 ^ 64 ≡ 1 = omega arith in
      let v5 : (c.regs 0 + 5) % 2 ^ 64 ≡ 5 = omega arith in
      let onto : (base + 4 * suc c.at + wrapped (pos 8)) % 2 ^ 64 ≡ base + 4 * (p + 28) = omega arith in
      alu_then (ins Addi 7 0 0 (pos 1)) 1 st.0 (clear c.at (omega arith) (omega arith)) k0 k0 (ap (λ x. Some x) v1) (omega arith) (omega arith)
      (⊎_elim
      (λ (l : u < v).
      let t : nat_lt (c.regs 28) (c.regs 30) ≡ true = grind (arith, nat_tests) in
      takes_then (ins Bltu 0 28 30 (pos 8)) (p + 28) st.1.0 (clear (suc c.at) (omega arith) (omega arith)) k28 k30 (ap (λ t. Some t) t) onto
      (within 1 2 (omega arith) (answer 1 (go (p + 28) (put 7 1 c)) refl refl (omega arith) z (less l) bytes (λ r n5 n6 n7 n28 n29 n30. with_other c.regs 7 1 r n7 ∙ same r n5 n6 n7 n28 n29 n30) (record { input = outside.input; out = outside.out; err = outside.err; cuts = outside.cuts }))))
      (λ (l : v ≤ u).
      let t : nat_lt (c.regs 28) (c.regs 30) ≡ false = grind (arith, nat_tests) in
      let g : v < u = ⊎_elim (λ (q : v < u). q) (λ (q : u ≤ v). absurd (n (omega arith))) (cases_lt v u) in
      let q28 : suc (suc (suc c.at)) ≡ p + 28 = omega arith in
      falls_then (ins Bltu 0 28 30 (pos 8)) st.1.0 (clear (suc c.at) (omega arith) (omega arith)) k28 k30 (ap (λ t. Some t) t)
      (alu_then (ins Addi 7 0 0 (pos 5)) 5 st.1.1.0 (clear (suc (suc c.at)) (omega arith) (omega arith)) k0 k0 (ap (λ x. Some x) v5) (omega arith) (omega arith)
      (answer 5 (put 7 5 (go (suc (suc c.at)) (put 7 1 c))) q28 refl (omega arith) z (more g) bytes (λ r n5 n6 n7 n28 n29 n30. with_other (with_value c.regs 7 1) 7 5 r n7 ∙ with_other c.regs 7 1 r n7 ∙ same r n5 n6 n7 n28 n29 n30) (record { input = outside.input; out = outside.out; err = outside.err; cuts = outside.cuts }))))
      (cases_lt u v))

  compared : (k i : ℕ) (c : Fine) → Left us bs xa xb p i k b c → Trips I (IsQuiet I) (Decided us bs p b) (k * 8 + 8) c
  compared zero i c h =
      let st = stands_at I.code (p + 17) c.at k_loop (sym h.at) code.loop in
      let pc = pc_low in
      let at = h.at in
      let x29 = h.x29 in
      let z : c.regs 0 ≡ 0 = h.same 0 (omega arith) (omega arith) (omega arith) (omega arith) (omega arith) (omega arith) ∙ z0 in
      let k29 : IsKnown (c.regs 29) = omega arith in
      let t : (c.regs 29 == c.regs 0) ≡ true = grind (arith, nat_tests) in
      let onto : (base + 4 * c.at + wrapped (pos 44)) % 2 ^ 64 ≡ base + 4 * (p + 28) = omega arith in
      let f = h.first in
      let s = h.second in
      let e : order us bs ≡ by_length (length us) (length bs) = h.so_far ∙ order_end us bs i (omega arith) (omega arith) (⊎_elim (λ (q : i + 0 ≡ length us). inl (omega arith)) (λ (q : i + 0 ≡ length bs). inr (omega arith)) h.one) in
      within 2 (0 * 8 + 8) (omega arith)
      (takes_then (ins Beq 0 29 0 (pos 44)) (p + 28) st.0 (clear c.at (omega arith) (omega arith)) k29 (zero_known (c.regs 0) z) (ap (λ t. Some t) t) onto
      (answer (by_length (length us) (length bs)) (go (p + 28) c) refl h.x7 (small (length us) (length bs)) z e h.bytes h.same (record { input = h.outside.input; out = h.outside.out; err = h.outside.err; cuts = h.outside.cuts })))
    where
      small : (m n : ℕ) → by_length m n < 6
      small m n = by (nat_lt m n) (nat_lt n m)
        where
          by : (s t : Bool) → (if s then 1 else if t then 5 else 3) < 6
          by true t = omega arith
          by false true = omega arith
          by false false = omega arith
  compared (suc k) i c h =
      let st = stands_at I.code (p + 17) c.at k_loop (sym h.at) code.loop in
      let pc = pc_low in
      let at = h.at in
      let x29 = h.x29 in
      let x5 = h.x5 in
      let x6 = h.x6 in
      let f = h.first in
      let s = h.second in
      let la : i < length us = omega arith in
      let lb : i < length bs = omega arith in
      let ha = ta.high in
      let hb = tb.high in
      let ua = ta.byte i la in
      let ub = tb.byte i lb in
      let u = get_or us i 0 in
      let v = get_or bs i 0 in
      let lu = ua.1 in
      let lv = ub.1 in
      let z : c.regs 0 ≡ 0 = h.same 0 (omega arith) (omega arith) (omega arith) (omega arith) (omega arith) (omega arith) ∙ z0 in
      let k0 = zero_known (c.regs 0) z in
      let k29 : IsKnown (c.regs 29) = omega arith in
      let k5 : IsKnown (c.regs 5) = omega arith in
      let k6 : IsKnown (c.regs 6) = omega arith in
      let ad5 : (c.regs 5 + wrapped (pos 8)) % 2 ^ 64 ≡ xa + (8 + i) = omega arith in
      let ad6 : (c.regs 6 + wrapped (pos 8)) % 2 ^ 64 ≡ xb + (8 + i) = omega arith in
      let al5 : (xa + (8 + i)) % 1 ≡ 0 = omega arith in
      let al6 : (xb + (8 + i)) % 1 ≡ 0 = omega arith in
      let m5 : c.byte (xa + (8 + i)) ≡ u = h.bytes (xa + (8 + i)) ∙ ua.0 in
      let m6 : c.byte (xb + (8 + i)) ≡ v = h.bytes (xb + (8 + i)) ∙ ub.0 in
      let kn5 = one_known c.byte (xa + (8 + i)) u m5 lu in
      let kn6 = one_known c.byte (xb + (8 + i)) v m6 lv in
      let rd5 : from_le_bytes w8 (listed_from c.byte (xa + (8 + i)) 1) ≡ u = one_byte (c.byte (xa + (8 + i))) u m5 lu in
      let rd6 : from_le_bytes w8 (listed_from c.byte (xb + (8 + i)) 1) ≡ v = one_byte (c.byte (xb + (8 + i))) v m6 lv in
      let ku : IsKnown u = omega arith in
      let kv : IsKnown v = omega arith in
      let far : (base + 4 * suc (suc (suc c.at)) + wrapped (pos 20)) % 2 ^ 64 ≡ base + 4 * (p + 25) = omega arith in
      let step = order_step us bs i la lb in
      let cut : suc (suc (suc (suc (4 + k * 8 + 8)))) ≡ suc k * 8 + 8 = omega arith in
      subst (λ n. Trips I (IsQuiet I) (Decided us bs p b) n c) cut
      (falls_then (ins Beq 0 29 0 (pos 44)) st.0 (clear c.at (omega arith) (omega arith)) k29 k0 (ap (λ t. Some t) (some_left (c.regs 29) (c.regs 0) k x29 z))
      (load_then (ins Lbu 28 5 0 (pos 8)) w8 (xa + (8 + i)) u st.1.0 (clear (suc c.at) (omega arith) (omega arith)) k5 refl ad5 al5 (ta.reads i la) kn5 rd5 (omega arith) (omega arith)
      (load_then (ins Lbu 30 6 0 (pos 8)) w8 (xb + (8 + i)) v st.1.1.0 (clear (suc (suc c.at)) (omega arith) (omega arith)) k6 refl ad6 al6 (tb.reads i lb) kn6 rd6 (omega arith) (omega arith)
      (⊎_elim
      (λ (e : u ≡ v).
      let t : not (u == v) ≡ false = grind (arith, nat_tests) in
      falls_then (ins Bne 0 28 30 (pos 20)) st.1.1.1.0 (clear (suc (suc (suc c.at))) (omega arith) (omega arith)) ku kv (ap (λ t. Some t) t)
      (within (suc (suc (suc (suc (k * 8 + 8))))) (4 + k * 8 + 8) (omega arith) (onward k i c h u v e (λ d w. compared k (suc i) d w))))
      (λ (n : u ≢ v).
      let t : not (u == v) ≡ true = differs u v n in
      takes_then (ins Bne 0 28 30 (pos 20)) (p + 25) st.1.1.1.0 (clear (suc (suc (suc c.at))) (omega arith) (omega arith)) ku kv (ap (λ t. Some t) t) far
      (within 4 (4 + k * 8 + 8) (omega arith) (differ u v (go (p + 25) (put 30 v (put 28 u (go (suc c.at) c)))) refl refl refl lu lv n z (λ l. h.so_far ∙ step ∙ step_less u v _ l) (λ l. h.so_far ∙ step ∙ step_more u v _ l) h.bytes
      (λ r n5 n6 n7 n28 n29 n30. with_other (with_value c.regs 28 u) 30 v r n30 ∙ with_other c.regs 28 u r n28 ∙ h.same r n5 n6 n7 n28 n29 n30) (record { input = h.outside.input; out = h.outside.out; err = h.outside.err; cuts = h.outside.cuts }))))
      (eq_cases u v)))))
    where
      one_byte : (m v : ℕ) → m ≡ v → v < 256 → from_le_bytes w8 (m ∷ []) ≡ v
      one_byte m v e l = omega arith

      one_known : (m : ℕ → ℕ) (y v : ℕ) → m y ≡ v → v < 256 → AllKnown m y 1
      one_known m y v e l = λ j q. let z : y + j ≡ y = omega arith in subst (λ y. m y < 256) (sym z) (subst (λ v. v < 256) (sym e) l)

      differs : (u v : ℕ) → u ≢ v → not (u == v) ≡ true
      differs u v n = grind (arith, nat_tests)

      onward : (k i : ℕ) (c : Fine) → Left us bs xa xb p i (suc k) b c → (u v : ℕ) → get_or us i 0 ≡ get_or bs i 0 → ((d : Fine) → Left us bs xa xb p (suc i) k b d → Trips I (IsQuiet I) (Decided us bs p b) (k * 8 + 8) d) → Trips I (IsQuiet I) (Decided us bs p b) (suc (suc (suc (suc (k * 8 + 8))))) (go (suc (suc (suc (suc c.at)))) (put 30 v (put 28 u (go (suc c.at) c))))
      onward k i c h u v e again =
          let st = stands_at I.code (p + 17) c.at k_loop (sym h.at) code.loop in
          let pc = pc_low in
          let at = h.at in
          let x29 = h.x29 in
          let x5 = h.x5 in
          let x6 = h.x6 in
          let f = h.first in
          let s = h.second in
          let ha = ta.high in
          let hb = tb.high in
          let la : i < length us = omega arith in
          let lb : i < length bs = omega arith in
          let z : c.regs 0 ≡ 0 = h.same 0 (omega arith) (omega arith) (omega arith) (omega arith) (omega arith) (omega arith) ∙ z0 in
          let k0 = zero_known (c.regs 0) z in
          let k29 : IsKnown (c.regs 29) = omega arith in
          let k5 : IsKnown (c.regs 5) = omega arith in
          let k6 : IsKnown (c.regs 6) = omega arith in
          let v5 : (c.regs 5 + 1) % 2 ^ 64 ≡ xa + suc i = omega arith in
          let v6 : (c.regs 6 + 1) % 2 ^ 64 ≡ xb + suc i = omega arith in
          let v29 : (c.regs 29 + wrapped (negsuc 0)) % 2 ^ 64 ≡ k = omega arith in
          let back : (base + 4 * suc (suc (suc (suc (suc (suc (suc c.at)))))) + wrapped (negsuc 27)) % 2 ^ 64 ≡ base + 4 * (p + 17) = omega arith in
          alu_then (ins Addi 5 5 0 (pos 1)) (xa + suc i) st.1.1.1.1.0 (clear (suc (suc (suc (suc c.at)))) (omega arith) (omega arith)) k5 k0 (ap (λ x. Some x) v5) (omega arith) (omega arith)
          (alu_then (ins Addi 6 6 0 (pos 1)) (xb + suc i) st.1.1.1.1.1.0 (clear (suc (suc (suc (suc (suc c.at))))) (omega arith) (omega arith)) k6 k0 (ap (λ x. Some x) v6) (omega arith) (omega arith)
          (alu_then (ins Addi 29 29 0 (negsuc 0)) k st.1.1.1.1.1.1.0 (clear (suc (suc (suc (suc (suc (suc c.at)))))) (omega arith) (omega arith)) k29 k0 (ap (λ x. Some x) v29) (omega arith) (omega arith)
          (turns_then (negsuc 27) (p + 17) st.1.1.1.1.1.1.1.0 (clear (suc (suc (suc (suc (suc (suc (suc c.at))))))) (omega arith) (omega arith)) back
          (again (go (p + 17) (put 29 k (put 6 (xb + suc i) (put 5 (xa + suc i) (go (suc (suc (suc (suc c.at)))) (put 30 v (put 28 u (go (suc c.at) c)))))))) (record {
            at = refl;
            x5 = refl;
            x6 = refl;
            x29 = refl;
            x7 = h.x7;
            first = omega arith;
            second = omega arith;
            one = ⊎_elim (λ (q : i + suc k ≡ length us). inl (omega arith)) (λ (q : i + suc k ≡ length bs). inr (omega arith)) h.one;
            so_far = h.so_far ∙ order_step us bs i la lb ∙ step_same (get_or us i 0) (get_or bs i 0) _ e;
            bytes = h.bytes;
            same = λ r n5 n6 n7 n28 n29 n30. five_same c.regs u v (xa + suc i) (xb + suc i) k r n5 n6 n28 n29 n30 ∙ h.same r n5 n6 n7 n28 n29 n30;
            outside = record { input = h.outside.input; out = h.outside.out; err = h.outside.err; cuts = h.outside.cuts };
          })))))
        where
          five_same : (g : ℕ → ℕ) (u v x y k r : ℕ) → r ≢ 5 → r ≢ 6 → r ≢ 28 → r ≢ 29 → r ≢ 30 → with_value (with_value (with_value (with_value (with_value g 28 u) 30 v) 5 x) 6 y) 29 k r ≡ g r
          five_same g u v x y k r n5 n6 n28 n29 n30 = with_other (with_value (with_value (with_value (with_value g 28 u) 30 v) 5 x) 6 y) 29 k r n29 ∙ with_other (with_value (with_value (with_value g 28 u) 30 v) 5 x) 6 y r n6 ∙ with_other (with_value (with_value g 28 u) 30 v) 5 x r n5 ∙ with_other (with_value g 28 u) 30 v r n30 ∙ with_other g 28 u r n28

  -- ---- before the loop

  last_two : (k r r2 : ℕ) (c : Fine) → c.at ≡ p + 15 → c.regs 30 ≡ r → c.regs 29 ≡ k → r < 2 ^ 64 → r * 2 % 2 ^ 64 ≡ r2 → (r2 + 3) % 2 ^ 64 ≡ by_length (length us) (length bs) → c.regs 5 ≡ xa → c.regs 6 ≡ xb → k ≤ length us → k ≤ length bs → (k ≡ length us) ⊎ (k ≡ length bs) → c.regs 0 ≡ 0 → ((y : ℕ) → c.byte y ≡ b.byte y) → ((r : ℕ) → r ≢ 5 → r ≢ 6 → r ≢ 7 → r ≢ 28 → r ≢ 29 → r ≢ 30 → c.regs r ≡ b.regs r) → SameOutside b c → Trips I (IsQuiet I) (λ c. (k : ℕ) × Left us bs xa xb p 0 k b c) 2 c
  last_two k r r2 c at x30 x29 lr e2 e3 x5 x6 lu lb one z bytes same outside =
      let st = stands_at I.code (p + 7) (p + 7) k_lengths refl code.lengths in
      let q8 : suc (suc (suc (suc (suc (suc (suc (suc (p + 7)))))))) ≡ c.at = omega arith in
      let q9 : suc (suc (suc (suc (suc (suc (suc (suc (suc (p + 7))))))))) ≡ suc c.at = omega arith in
      let k0 = zero_known (c.regs 0) z in
      let k30 : IsKnown (c.regs 30) = omega arith in
      let kr : IsKnown r2 = subst IsKnown e2 (under (r * 2)) in
      let v1 : c.regs 30 * 2 % 2 ^ 64 ≡ r2 = ap (λ r. r * 2 % 2 ^ 64) x30 ∙ e2 in
      let first : 0 + k ≤ length us = omega arith in
      let second : 0 + k ≤ length bs = omega arith in
      alu_then (ins Slli 7 30 0 (pos 1)) r2 (subst (λ n. slice_get I.code n ≡ Some (ins Slli 7 30 0 (pos 1))) q8 st.1.1.1.1.1.1.1.1.0) (clear c.at (omega arith) (omega arith)) k30 k0 (ap (λ x. Some x) v1) (omega arith) (omega arith)
      (alu_then (ins Addi 7 7 0 (pos 3)) (by_length (length us) (length bs)) (subst (λ n. slice_get I.code n ≡ Some (ins Addi 7 7 0 (pos 3))) q9 st.1.1.1.1.1.1.1.1.1.0) (clear (suc c.at) (omega arith) (omega arith)) kr k0 (ap (λ x. Some x) e3) (omega arith) (omega arith)
      (finish (
        k,
        record {
          at = omega arith;
          x5 = x5 ∙ (let q : xa ≡ xa + 0 = omega arith in q);
          x6 = x6 ∙ (let q : xb ≡ xb + 0 = omega arith in q);
          x29 = x29;
          x7 = refl;
          first = first;
          second = second;
          one = ⊎_elim (λ (q : k ≡ length us). inl (omega arith)) (λ (q : k ≡ length bs). inr (omega arith)) one;
          so_far = ap (λ xs. order xs bs) (sym (drop_none us)) ∙ ap (order (drop 0 us)) (sym (drop_none bs));
          bytes = bytes;
          same = λ j n5 n6 n7 n28 n29 n30. with_other (with_value c.regs 7 r2) 7 (by_length (length us) (length bs)) j n7 ∙ with_other c.regs 7 r2 j n7 ∙ same j n5 n6 n7 n28 n29 n30;
          outside = record { input = outside.input; out = outside.out; err = outside.err; cuts = outside.cuts };
        },
      )))
    where
      under : (x : ℕ) → x % 2 ^ 64 < 2 ^ 64
      under x = omega arith

  lengths_by : (s t r r2 : ℕ) → bit_of (is_less (length bs) (length us)) ≡ s → bit_of (is_less (length us) (length bs)) ≡ t → s < 2 → t < 2 → (s + (2 ^ 64 - t)) % 2 ^ 64 ≡ r → r * 2 % 2 ^ 64 ≡ r2 → (r2 + 3) % 2 ^ 64 ≡ by_length (length us) (length bs) → b.at ≡ p + 7 → b.regs 5 ≡ xa → b.regs 6 ≡ xb → Trips I (IsQuiet I) (λ c. (k : ℕ) × Left us bs xa xb p 0 k b c) 10 b
  lengths_by s t r r2 es et ls lt er e2 e3 at x5 x6 =
      let st = stands_at I.code (p + 7) b.at k_lengths (sym at) code.lengths in
      let pc = pc_low in
      let ha = ta.high in
      let hb = tb.high in
      let aa = ta.aligned in
      let ab = tb.aligned in
      let k0 = zero_known (b.regs 0) z0 in
      let k5 : IsKnown (b.regs 5) = omega arith in
      let k6 : IsKnown (b.regs 6) = omega arith in
      let ad5 : (b.regs 5 + wrapped (pos 4)) % 2 ^ 64 ≡ xa + 4 = omega arith in
      let ad6 : (b.regs 6 + wrapped (pos 4)) % 2 ^ 64 ≡ xb + 4 = omega arith in
      let al5 : (xa + 4) % 4 ≡ 0 = omega arith in
      let al6 : (xb + 4) % 4 ≡ 0 = omega arith in
      let km : IsKnown (length us) = omega arith in
      let kn : IsKnown (length bs) = omega arith in
      let ks : IsKnown s = omega arith in
      let kt : IsKnown t = omega arith in
      let lr : r < 2 ^ 64 = subst (λ x. x < 2 ^ 64) er (under (s + (2 ^ 64 - t))) in
      let v5 : (length us + 0) % 2 ^ 64 ≡ length us = omega arith in
      let v7 : (length bs + 0) % 2 ^ 64 ≡ length bs = omega arith in
      let at15 : suc (suc (suc (suc (suc (suc (suc (suc b.at))))))) ≡ p + 15 = omega arith in
      let onto : (base + 4 * suc (suc (suc (suc (suc (suc b.at))))) + wrapped (pos 8)) % 2 ^ 64 ≡ base + 4 * (p + 15) = omega arith in
      load_then (ins Lwu 7 5 0 (pos 4)) w32 (xa + 4) (length us) st.0 (clear b.at (omega arith) (omega arith)) k5 refl ad5 al5 ta.len_reads ta.len.0 ta.len.1 (omega arith) (omega arith)
      (load_then (ins Lwu 28 6 0 (pos 4)) w32 (xb + 4) (length bs) st.1.0 (clear (suc b.at) (omega arith) (omega arith)) k6 refl ad6 al6 tb.len_reads tb.len.0 tb.len.1 (omega arith) (omega arith)
      (alu_then (ins Slt 29 28 7 (pos 0)) s st.1.1.0 (clear (suc (suc b.at)) (omega arith) (omega arith)) kn km (ap (λ x. Some x) es) (omega arith) (omega arith)
      (alu_then (ins Slt 30 7 28 (pos 0)) t st.1.1.1.0 (clear (suc (suc (suc b.at))) (omega arith) (omega arith)) km kn (ap (λ x. Some x) et) (omega arith) (omega arith)
      (alu_then (ins Sub 30 29 30 (pos 0)) r st.1.1.1.1.0 (clear (suc (suc (suc (suc b.at)))) (omega arith) (omega arith)) ks kt (ap (λ x. Some x) er) (omega arith) (omega arith)
      (alu_then (ins Addi 29 7 0 (pos 0)) (length us) st.1.1.1.1.1.0 (clear (suc (suc (suc (suc (suc b.at))))) (omega arith) (omega arith)) km k0 (ap (λ x. Some x) v5) (omega arith) (omega arith)
      (⊎_elim
      (λ (l : length bs < length us).
      falls_then (ins Bgeu 0 28 7 (pos 8)) st.1.1.1.1.1.1.0 (clear (suc (suc (suc (suc (suc (suc b.at)))))) (omega arith) (omega arith)) kn km (ap (λ t. Some t) (less_off (length bs) (length us) l))
      (alu_then (ins Addi 29 28 0 (pos 0)) (length bs) st.1.1.1.1.1.1.1.0 (clear (suc (suc (suc (suc (suc (suc (suc b.at))))))) (omega arith) (omega arith)) kn k0 (ap (λ x. Some x) v7) (omega arith) (omega arith)
      (last_two (length bs) r r2 (put 29 (length bs) (go (suc (suc (suc (suc (suc (suc (suc b.at))))))) (put 29 (length us) (put 30 r (put 30 t (put 29 s (put 28 (length bs) (put 7 (length us) b)))))))) at15 refl refl lr e2 e3 x5 x6 (omega arith) (omega arith) (inr refl) z0 (λ y. refl)
      (λ j n5 n6 n7 n28 n29 n30. with_other (with_value (with_value (with_value (with_value (with_value (with_value b.regs 7 (length us)) 28 (length bs)) 29 s) 30 t) 30 r) 29 (length us)) 29 (length bs) j n29 ∙ six_same b.regs (length us) (length bs) s t r j n7 n28 n29 n30)
      (record { input = refl; out = refl; err = refl; cuts = refl }))))
      (λ (l : length us ≤ length bs).
      takes_then (ins Bgeu 0 28 7 (pos 8)) (p + 15) st.1.1.1.1.1.1.0 (clear (suc (suc (suc (suc (suc (suc b.at)))))) (omega arith) (omega arith)) kn km (ap (λ t. Some t) (less_on (length bs) (length us) l)) onto
      (within 2 3 (omega arith) (last_two (length us) r r2 (go (p + 15) (put 29 (length us) (put 30 r (put 30 t (put 29 s (put 28 (length bs) (put 7 (length us) b))))))) refl refl refl lr e2 e3 x5 x6 (omega arith) (omega arith) (inl refl) z0 (λ y. refl)
      (λ j n5 n6 n7 n28 n29 n30. six_same b.regs (length us) (length bs) s t r j n7 n28 n29 n30)
      (record { input = refl; out = refl; err = refl; cuts = refl }))))
      (cases_lt (length bs) (length us))))))))
    where
      under : (x : ℕ) → x % 2 ^ 64 < 2 ^ 64
      under x = omega arith

      less_off : (m n : ℕ) → m < n → not (nat_lt m n) ≡ false
      less_off m n l = grind (arith, nat_tests)

      less_on : (m n : ℕ) → n ≤ m → not (nat_lt m n) ≡ true
      less_on m n l = grind (arith, nat_tests)

      six_same : (g : ℕ → ℕ) (m n s t r j : ℕ) → j ≢ 7 → j ≢ 28 → j ≢ 29 → j ≢ 30 → with_value (with_value (with_value (with_value (with_value (with_value g 7 m) 28 n) 29 s) 30 t) 30 r) 29 m j ≡ g j
      six_same g m n s t r j n7 n28 n29 n30 = with_other (with_value (with_value (with_value (with_value (with_value g 7 m) 28 n) 29 s) 30 t) 30 r) 29 m j n29 ∙ with_other (with_value (with_value (with_value (with_value g 7 m) 28 n) 29 s) 30 t) 30 r j n30 ∙ with_other (with_value (with_value (with_value g 7 m) 28 n) 29 s) 30 t j n30 ∙ with_other (with_value (with_value g 7 m) 28 n) 29 s j n29 ∙ with_other (with_value g 7 m) 28 n j n28 ∙ with_other g 7 m j n7

  measured : b.at ≡ p + 7 → b.regs 5 ≡ xa → b.regs 6 ≡ xb → Trips I (IsQuiet I) (λ c. (k : ℕ) × Left us bs xa xb p 0 k b c) 10 b
  measured at x5 x6 =
      let ha = ta.high in
      let hb = tb.high in
      ⊎_elim
      (λ (l : length us < length bs). lengths_by 0 1 18446744073709551615 18446744073709551614 (not_below (length bs) (length us) (omega arith) (omega arith)) (below (length us) (length bs) l (omega arith)) (omega arith) (omega arith) refl refl (sym (length_less (length us) (length bs) l)) at x5 x6)
      (λ (l : length bs ≤ length us). ⊎_elim
      (λ (g : length bs < length us). lengths_by 1 0 1 2 (below (length bs) (length us) g (omega arith)) (not_below (length us) (length bs) l (omega arith)) (omega arith) (omega arith) refl refl (sym (length_more (length us) (length bs) g)) at x5 x6)
      (λ (g : length us ≤ length bs). lengths_by 0 0 0 0 (not_below (length bs) (length us) g (omega arith)) (not_below (length us) (length bs) l (omega arith)) (omega arith) (omega arith) refl refl (sym (length_same (length us) (length bs) (omega arith))) at x5 x6)
      (cases_lt (length bs) (length us)))
      (cases_lt (length us) (length bs))

  decided : b.at ≡ p + 7 → b.regs 5 ≡ xa → b.regs 6 ≡ xb → Trips I (IsQuiet I) (Decided us bs p b) (10 + (length us * 8 + 8)) b
  decided at x5 x6 =
      then_on 10 (length us * 8 + 8) (measured at x5 x6) (λ c t g. within (g.0 * 8 + 8) (length us * 8 + 8) (let f = g.1.first in omega arith) (compared g.0 0 c g.1))

-- ---- the routine

pub compares : (I : Emitted) (laid : IsLaid I) (near : IsNear I) (p : ℕ) → Stands I.code p (compare_code I p) → IsClear I p 37 → (us bs : List ℕ) (xa xb top ret : ℕ) (a : Fine) → Strung I us bs xa xb top ret p a → ret < length I.code → Trips I (IsQuiet I) (Compared I us bs ret a) (compare_most us) a
compares I laid near p st clear us bs xa xb top ret a s rc =
    let inside = stands_within I.code p (compare_code I p) (omega arith) st in
    let code = parts I p st in
    then_on 7 (10 + (length us * 8 + 8 + 8)) (kept I laid near (IsQuiet I) p code.save (λ k l h. clear k l (omega arith)) (omega arith) a s.at s.zero_reg) (λ b t k. after inside code b k)
  where
    ended : (b c e : Fine) → Kept I p a b → Decided us bs p b c → Brought I ret a c e → e.regs 0 ≡ 0 → Compared I us bs ret a e
    ended b c e k d w z = record {
      at = w.at;
      x0 = z;
      x5 = w.same 5 (omega arith) (omega arith) (omega arith) (omega arith) ∙ d.x5;
      x9 = w.x9;
      same = λ r n5 n6 n7 n9 kn. each r n5 n6 n7 n9 kn;
      others = λ x q. ap (λ m. m x) w.bytes ∙ d.bytes x ∙ k.others x q;
      outside = outside_then a c e (outside_then a b c k.outside d.outside) w.outside;
    }
      where
        each : (r : ℕ) → r ≢ 5 → r ≢ 6 → r ≢ 7 → r ≢ 9 → IsKnown (a.regs r) → e.regs r ≡ a.regs r
        each r n5 n6 n7 n9 kn = ⊎_elim
            (λ (q : r ≡ 28). w.back r (inl q) kn)
            (λ (n28 : r ≢ 28). ⊎_elim
            (λ (q : r ≡ 29). w.back r (inr (inl q)) kn)
            (λ (n29 : r ≢ 29). ⊎_elim
            (λ (q : r ≡ 30). w.back r (inr (inr q)) kn)
            (λ (n30 : r ≢ 30). w.same r n9 n28 n29 n30 ∙ d.same r n5 n6 n7 n28 n29 n30 ∙ k.same r n9)
            (eq_cases r 30))
            (eq_cases r 29))
            (eq_cases r 28)

    after : p + 37 ≤ length I.code → (code : Parts I p) → (b : Fine) → Kept I p a b → Trips I (IsQuiet I) (Compared I us bs ret a) (10 + (length us * 8 + 8 + 8)) b
    after inside code b k =
        let z : b.regs 0 ≡ 0 = k.same 0 (omega arith) ∙ s.zero_reg in
        let ta = text_of I laid near top xa us a.byte b.byte s.high s.first k.others in
        let tb = text_of I laid near top xb bs a.byte b.byte s.high s.second k.others in
        let cut : 10 + (length us * 8 + 8) + 8 ≡ 10 + (length us * 8 + 8 + 8) = omega arith in
        subst (λ n. Trips I (IsQuiet I) (Compared I us bs ret a) n b) cut
        (then_on (10 + (length us * 8 + 8)) 8 (decided I laid near p code clear inside us bs xa xb b z ta tb k.at (k.same 5 (omega arith) ∙ s.x5) (k.same 6 (omega arith) ∙ s.x6)) (λ c t d.
        let zc : c.regs 0 ≡ 0 = d.same 0 (omega arith) (omega arith) (omega arith) (omega arith) (omega arith) (omega arith) ∙ z in
        let x31 : c.regs 31 ≡ base + 4 * ret = d.same 31 (omega arith) (omega arith) (omega arith) (omega arith) (omega arith) (omega arith) ∙ k.same 31 (omega arith) ∙ s.x31 in
        to_goal 8 (λ e u w. ended b c e k d w (u.x0 ∙ zc)) (brought I laid near (IsQuiet I) (p + 29) code.load (λ j l h. clear j (omega arith) (omega arith)) (omega arith) ret rc a c d.at zc x31 (saved_same I a b.byte c.byte (λ x l h. d.bytes x) k.saved))))
