-- Identifiers and long identifiers.
use Rattle.std.proofs.Common.{◌≡◌, ◌≢◌, ℕ, zero, suc, ◌+◌, ◌≤◌, true, false, List, [], ◌∷◌, ◌++◌, Option, Some, None, length, take, drop, get_or, refl, sym, ap, ◌∙◌, subst, arith, ◌⊎◌, inl, inr}
use Rattle.std.specs.Prelude.{is_some}
use Rattle.std.specs.List.{prefix_len, list_all}
use Rattle.std.proofs.lemmas.List.{append_assoc, length-append, take-append-drop, length-take-le, take_at, drop_at, length-drop}
use Rattle.std.proofs.lemmas.List.Sums.{prefix_len-le-length}
use Rattle.std.proofs.lemmas.Bool.{and_parts, and_from, cond-true, cond-false, eq-eqb, cases_Bool, cases_eq}
use Rattle.sml_lexer.specs.declared.plain.AfterDot.{AfterDot}
use Rattle.sml_lexer.specs.Bytes.{is_letter, is_alphanumeric, is_sign}
use Rattle.sml_lexer.specs.Numbers.{AreSome}
use Rattle.sml_lexer.specs.Reserved.{reserved_of}
use Rattle.sml_lexer.specs.Spellings.{IsAlphanumeric, IsIdentifier, IsSymbol, IsAfterDot, IsLong}
use Rattle.sml_lexer.specs.Spellings as spellings
use Rattle.sml_lexer.specs.PlainScan.{kept, part_at, dots, joined}
use Rattle.sml_lexer.proofs.RunLemmas.{run-append, run_whole, run_front}
use Rattle.sml_lexer.proofs.ByteLemmas.{letter_alphanumeric, sign_not_letter}
use Rattle.sml_lexer.proofs.PlainScanLemmas.{dots_stop, joined_nothing, joined_last, joined_more}
use Rattle.sml_lexer.proofs.ReservedLemmas.{free_from_none, none_from_free}

pub some_or_none : {A : Type 0} (o : Option A) → (is_some o ≡ true) ⊎ ((is_some o ≡ false) × (o ≡ None))
some_or_none None = inr (refl, refl)
some_or_none (Some x) = inl refl

-- the longest front that is no reserved word
kept_bound : (s : List ℕ) (n : ℕ) → kept s n ≤ n
kept_bound s zero = omega arith
kept_bound s (suc n) = step (cases_Bool (is_some (reserved_of (take (suc n) s)))) (kept_bound s n)
  where
    step : (is_some (reserved_of (take (suc n) s)) ≡ true) ⊎ (is_some (reserved_of (take (suc n) s)) ≡ false) → kept s n ≤ n → kept s (suc n) ≤ suc n
    step (inl h) ih = let e : kept s (suc n) ≡ kept s n = cond-true _ _ _ h in omega arith
    step (inr h) ih = let e : kept s (suc n) ≡ suc n = cond-false _ _ _ h in omega arith

kept_free : (s : List ℕ) (n : ℕ) → kept s n ≢ 0 → reserved_of (take (kept s n) s) ≡ None
kept_free s zero h = absurd (h refl)
kept_free s (suc n) h = step (some_or_none (reserved_of (take (suc n) s))) (kept_free s n)
  where
    step : (is_some (reserved_of (take (suc n) s)) ≡ true) ⊎ ((is_some (reserved_of (take (suc n) s)) ≡ false) × (reserved_of (take (suc n) s) ≡ None)) → (kept s n ≢ 0 → reserved_of (take (kept s n) s) ≡ None) → reserved_of (take (kept s (suc n)) s) ≡ None
    step (inl b) ih = let e : kept s (suc n) ≡ kept s n = cond-true _ _ _ b in ap (λ k. reserved_of (take k s)) e ∙ ih (λ z. h (e ∙ z))
    step (inr b) ih = let e : kept s (suc n) ≡ suc n = cond-false _ _ _ b.0 in ap (λ k. reserved_of (take k s)) e ∙ b.1

kept_most : (s : List ℕ) (n m : ℕ) → m ≤ n → reserved_of (take m s) ≡ None → m ≤ kept s n
kept_most s zero m h e = omega arith
kept_most s (suc n) m h e = step (cases_Bool (is_some (reserved_of (take (suc n) s)))) (cases_eq m (suc n)) (λ k. kept_most s n m k e)
  where
    step : (is_some (reserved_of (take (suc n) s)) ≡ true) ⊎ (is_some (reserved_of (take (suc n) s)) ≡ false) → (m ≡ suc n) ⊎ (m ≢ suc n) → (m ≤ n → m ≤ kept s n) → m ≤ kept s (suc n)
    step (inl b) (inl k) ih = let none : is_some (reserved_of (take (suc n) s)) ≡ false = ap (λ x. is_some (reserved_of (take x s))) (sym k) ∙ ap is_some e in cc
    step (inl b) (inr k) ih = let r : kept s (suc n) ≡ kept s n = cond-true _ _ _ b in let q = ih (omega (arith, k)) in omega arith
    step (inr b) k ih = let r : kept s (suc n) ≡ suc n = cond-false _ _ _ b in omega arith

pub all_alphanumeric : (s : List ℕ) → IsAlphanumeric s → list_all is_alphanumeric s ≡ true
all_alphanumeric [] h = absurd h
all_alphanumeric (c ∷ s) h = and_from _ _ (letter_alphanumeric c h.0) h.1

-- a front of at least one alphanumeric byte, where a letter stands
pub alphanumeric_front : (s : List ℕ) (n : ℕ) → is_letter (get_or s 0 0) ≡ true → n ≢ 0 → n ≤ prefix_len is_alphanumeric s → IsAlphanumeric (take n s)
unfolding is_letter
alphanumeric_front s zero h k l = absurd (k refl)
alphanumeric_front [] (suc n) h k l = cc
alphanumeric_front (c ∷ s) (suc n) h k l = (h, (and_parts _ _ (run_front is_alphanumeric (suc n) (c ∷ s) l)).1)

pub sign_front : (s : List ℕ) (n : ℕ) → n ≢ 0 → n ≤ prefix_len is_sign s → AreSome is_sign (take n s)
sign_front s zero k l = absurd (k refl)
sign_front [] (suc n) k l = absurd (omega arith)
sign_front (c ∷ s) (suc n) k l = run_front is_sign (suc n) (c ∷ s) l

-- what the scan finds behind a dot
data PartIs (s : List ℕ) (p : AfterDot) : Type 0 where
  nothing : p.len ≡ 0 → PartIs s p
  last : p.len ≢ 0 → p.goes_on ≡ false → IsAfterDot (take p.len s) → p.len ≤ length s → PartIs s p
  on : p.len ≢ 0 → p.goes_on ≡ true → IsIdentifier (take p.len s) → p.len ≤ length s → PartIs s p

kept_part : (s : List ℕ) (n : ℕ) → n ≤ length s → ((k : ℕ) → k ≢ 0 → k ≤ n → reserved_of (take k s) ≡ None → IsAfterDot (take k s)) → PartIs s (record { len = kept s n; goes_on = false })
kept_part s n h make = go (cases_eq (kept s n) 0)
  where
    go : (kept s n ≡ 0) ⊎ (kept s n ≢ 0) → PartIs s (record { len = kept s n; goes_on = false })
    go (inl z) = nothing z
    go (inr z) = let b = kept_bound s n in last z refl (make (kept s n) z b (kept_free s n z)) (omega arith)

part_is : (s : List ℕ) → PartIs s (part_at s)
unfolding part_at
part_is s = go (cases_Bool (is_letter (get_or s 0 0))) (some_or_none (reserved_of (take n s))) (cases_eq n 0)
  where
    n : ℕ
    n = prefix_len is_alphanumeric s

    go : (is_letter (get_or s 0 0) ≡ true) ⊎ (is_letter (get_or s 0 0) ≡ false) → (is_some (reserved_of (take n s)) ≡ true) ⊎ ((is_some (reserved_of (take n s)) ≡ false) × (reserved_of (take n s) ≡ None)) → (n ≡ 0) ⊎ (n ≢ 0) → PartIs s (part_at s)
    go (inl l) (inl r) _ =
        subst (PartIs s) (sym (cond-true _ _ _ l ∙ cond-true _ _ _ r))
        (kept_part s n (prefix_len-le-length is_alphanumeric s) (λ k z b e. spellings.IsAfterDot.identifier _ (record { spelled = alphanumeric_front s k l z b; free = free_from_none _ e })))
    go (inl l) (inr r) (inl z) = subst (PartIs s) (sym (cond-true _ _ _ l ∙ cond-false _ _ _ r.0)) (nothing z)
    go (inl l) (inr r) (inr z) =
        subst (PartIs s) (sym (cond-true _ _ _ l ∙ cond-false _ _ _ r.0))
        (on z refl (record { spelled = alphanumeric_front s n l z (omega arith); free = free_from_none _ r.1 }) (prefix_len-le-length is_alphanumeric s))
    go (inr l) _ _ =
        subst (PartIs s) (sym (cond-false _ _ _ l))
        (kept_part s (prefix_len is_sign s) (prefix_len-le-length is_sign s) (λ k z b e. spellings.IsAfterDot.symbol _ (record { spelled = sign_front s k z b; free = free_from_none _ e })))

-- a row of dots is a dot and what may follow it
pub data DotsAre (s : List ℕ) (n : ℕ) : Type 0 where
  nothing : n ≡ 0 → DotsAre s n
  some : (t : List ℕ) → n ≢ 0 → IsAfterDot t → take n s ≡ 46 ∷ t → n ≤ length s → DotsAre s n

dot_front : (s : List ℕ) (n : ℕ) → get_or s 0 0 ≡ 46 → take (1 + n) s ≡ 46 ∷ take n (drop 1 s)
dot_front [] n h = absurd (omega arith)
dot_front (c ∷ s) n h = ap (λ k. take k (c ∷ s)) (let e : 1 + n ≡ suc n = omega arith in e) ∙ ap (λ x. x ∷ take n s) h

front_plus : (b : ℕ) (x y : List ℕ) → take (length x + b) (x ++ y) ≡ x ++ take b y
front_plus b [] y = let e : zero + b ≡ b = omega arith in ap (λ n. take n y) e
front_plus b (c ∷ x) y = let e : suc (length x) + b ≡ suc (length x + b) = omega arith in ap (λ n. take n (c ∷ (x ++ y))) e ∙ ap (λ r. c ∷ r) (front_plus b x y)

pub take_plus : (a b : ℕ) (s : List ℕ) → a ≤ length s → take (a + b) s ≡ take a s ++ take b (drop a s)
take_plus a b s h =
    ap (take (a + b)) (sym (take-append-drop a s))
    ∙ ap (λ n. take (n + b) (take a s ++ drop a s)) (sym (length-take-le a s h))
    ∙ front_plus b (take a s) (drop a s)

dots_step : (fuel : ℕ) (s : List ℕ) → get_or s 0 0 ≡ 46 → (p : AfterDot) → PartIs (drop 1 s) p → (r : ℕ) → DotsAre (drop (1 + p.len) s) r → DotsAre s (joined p r)
dots_step fuel s dot p (nothing z) r d = nothing (joined_nothing p r z)
dots_step fuel s dot p (last z g a b) r d =
    let e = joined_last p r z g in
    let room : 1 + p.len ≤ length s = let k = length-drop 1 s in omega (arith, z) in
    subst (DotsAre s) (sym e) (some (take p.len (drop 1 s)) (let ne : 1 + p.len ≢ 0 = omega arith in ne) a (dot_front s p.len dot) room)
dots_step fuel s dot p (on z g i b) r (nothing zr) =
    let e : joined p r ≡ 1 + p.len = joined_more p r z g ∙ (omega arith) in
    let room : 1 + p.len ≤ length s = let k = length-drop 1 s in omega (arith, z) in
    subst (DotsAre s) (sym e) (some (take p.len (drop 1 s)) (let ne : 1 + p.len ≢ 0 = omega arith in ne) (spellings.IsAfterDot.identifier _ i) (dot_front s p.len dot) room)
dots_step fuel s dot p (on z g i b) r (some t nz a f c) =
    let e = joined_more p r z g in
    let room : 1 + p.len ≤ length s = let k = length-drop 1 s in omega (arith, z) in
    let text = take_plus (1 + p.len) r s room ∙ ap (λ x. x ++ take r (drop (1 + p.len) s)) (dot_front s p.len dot) ∙ ap (λ x. 46 ∷ take p.len (drop 1 s) ++ x) f in
    let all : 1 + p.len + r ≤ length s = let k = length-drop (1 + p.len) s in omega (arith, c) in
    subst (DotsAre s) (sym e) (some (take p.len (drop 1 s) ++ 46 ∷ t) (let ne : 1 + p.len + r ≢ 0 = omega arith in ne) (spellings.IsAfterDot.more _ t i a) text all)

pub dots_are : (fuel : ℕ) (s : List ℕ) → DotsAre s (dots fuel s)
dots_are zero s = nothing refl
dots_are (suc fuel) s = go (cases_eq (get_or s 0 0) 46) (dots_are fuel (drop (1 + (part_at (drop 1 s)).len) s))
  where
    go : (get_or s 0 0 ≡ 46) ⊎ (get_or s 0 0 ≢ 46) → DotsAre (drop (1 + (part_at (drop 1 s)).len) s) (dots fuel (drop (1 + (part_at (drop 1 s)).len) s)) → DotsAre s (dots (suc fuel) s)
    go (inl h) d = subst (DotsAre s) (sym (cond-true _ _ _ (eq-eqb _ _ h))) (dots_step fuel s h (part_at (drop 1 s)) (part_is (drop 1 s)) _ d)
    go (inr h) d = nothing (dots_stop (suc fuel) s h)

-- and the longest
pub letter_first : (t more : List ℕ) → IsAlphanumeric t → is_letter (get_or (t ++ more) 0 0) ≡ true
letter_first [] more h = absurd h
letter_first (c ∷ t) more h = h.0

pub sign_first : (t more : List ℕ) → AreSome is_sign t → is_letter (get_or (t ++ more) 0 0) ≡ false
sign_first [] more h = absurd h
sign_first (c ∷ t) more h = sign_not_letter c (and_parts _ _ h).0

pub all_signs : (t : List ℕ) → AreSome is_sign t → list_all is_sign t ≡ true
all_signs [] h = absurd h
all_signs (c ∷ t) h = h

pub some_alphanumeric : (t : List ℕ) → IsAlphanumeric t → length t ≢ 0
some_alphanumeric [] h = absurd h
some_alphanumeric (c ∷ t) h = let ne : length (c ∷ t) ≢ 0 = omega arith in ne

pub some_signs : (t : List ℕ) → AreSome is_sign t → length t ≢ 0
some_signs [] h = absurd h
some_signs (c ∷ t) h = let ne : length (c ∷ t) ≢ 0 = omega arith in ne

-- at least so much follows the dot
pub record PartFits (n : ℕ) (p : AfterDot) : Type 0 where
  pub fits : n ≤ p.len
  pub some : n ≢ 0

part_identifier : (t more : List ℕ) → IsIdentifier t → PartFits (length t) (part_at (t ++ more))
unfolding part_at
part_identifier t more i = record { fits = go (some_or_none (reserved_of (take n (t ++ more)))); some = some_alphanumeric t i.spelled }
  where
    n : ℕ
    n = prefix_len is_alphanumeric (t ++ more)

    enough : length t ≤ n
    enough = let e = run-append is_alphanumeric t more (all_alphanumeric t i.spelled) in omega (arith, e)

    l : is_letter (get_or (t ++ more) 0 0) ≡ true
    l = letter_first t more i.spelled

    free : reserved_of (take (length t) (t ++ more)) ≡ None
    free = ap reserved_of (take_at t more (length t) refl) ∙ none_from_free t i.free

    go : (is_some (reserved_of (take n (t ++ more))) ≡ true) ⊎ ((is_some (reserved_of (take n (t ++ more))) ≡ false) × (reserved_of (take n (t ++ more)) ≡ None)) → length t ≤ (part_at (t ++ more)).len
    go (inl r) = subst (λ (p : AfterDot). length t ≤ p.len) (sym (cond-true _ _ _ l ∙ cond-true _ _ _ r)) (kept_most (t ++ more) n (length t) enough free)
    go (inr r) = subst (λ (p : AfterDot). length t ≤ p.len) (sym (cond-true _ _ _ l ∙ cond-false _ _ _ r.0)) enough

part_symbol : (t more : List ℕ) → IsSymbol t → PartFits (length t) (part_at (t ++ more))
unfolding part_at
part_symbol t more i =
    let e = run-append is_sign t more (all_signs t i.spelled) in
    let enough : length t ≤ prefix_len is_sign (t ++ more) = omega (arith, e) in
    let free = ap reserved_of (take_at t more (length t) refl) ∙ none_from_free t i.free in
    record { fits = subst (λ (p : AfterDot). length t ≤ p.len) (sym (cond-false _ _ _ (sign_first t more i.spelled))) (kept_most (t ++ more) _ (length t) enough free); some = some_signs t i.spelled }

pub dot_stops : is_alphanumeric 46 ≡ false
unfolding is_alphanumeric
dot_stops = refl

part_dotted : (q more : List ℕ) → IsIdentifier q → part_at (q ++ 46 ∷ more) ≡ record { len = length q; goes_on = true }
unfolding part_at
part_dotted q more i =
    let e = run_whole is_alphanumeric q 46 more (all_alphanumeric q i.spelled) dot_stops in
    let free : is_some (reserved_of (take (prefix_len is_alphanumeric (q ++ 46 ∷ more)) (q ++ 46 ∷ more))) ≡ false =
    ap (λ n. is_some (reserved_of (take n (q ++ 46 ∷ more)))) e ∙ ap (λ x. is_some (reserved_of x)) (take_at q (46 ∷ more) (length q) refl) ∙ ap is_some (none_from_free q i.free) in
    cond-true _ _ _ (letter_first q (46 ∷ more) i.spelled) ∙ cond-false _ _ _ free ∙ ap (λ n. record { len = n; goes_on = true }) e

joined_least : (n : ℕ) (p : AfterDot) (r : ℕ) → PartFits n p → 1 + n ≤ joined p r
joined_least n p r f = go (cases_Bool p.goes_on)
  where
    ne : p.len ≢ 0
    ne = let h = f.fits in let k = f.some in omega (arith, k)

    go : (p.goes_on ≡ true) ⊎ (p.goes_on ≡ false) → 1 + n ≤ joined p r
    go (inl g) = let e = joined_more p r ne g in let h = f.fits in omega arith
    go (inr g) = let e = joined_last p r ne g in let h = f.fits in omega arith

dots_dotted : (q s more : List ℕ) (fuel : ℕ) → IsIdentifier q → dots (suc fuel) (46 ∷ (q ++ 46 ∷ s) ++ more) ≡ 1 + length q + dots fuel (46 ∷ s ++ more)
dots_dotted q s more fuel i =
    let x = (q ++ 46 ∷ s) ++ more in
    let e : x ≡ q ++ 46 ∷ (s ++ more) = append_assoc q (46 ∷ s) more in
    let p : AfterDot = record { len = length q; goes_on = true } in
    let is : part_at x ≡ p = ap part_at e ∙ part_dotted q (s ++ more) i in
    let left : drop (1 + length q) (46 ∷ x) ≡ 46 ∷ (s ++ more) = ap (λ y. drop (1 + length q) (46 ∷ y)) e ∙ drop_at (46 ∷ q) (46 ∷ (s ++ more)) (1 + length q) (omega arith) in
    ap (λ y. joined y (dots fuel (drop (1 + y.len) (46 ∷ x)))) is ∙ joined_more p _ (some_alphanumeric q i.spelled) refl ∙ ap (λ r. 1 + length q + dots fuel r) left

pub dots_most : (t : List ℕ) → IsAfterDot t → (fuel : ℕ) (more : List ℕ) → length (46 ∷ t ++ more) ≤ fuel → 1 + length t ≤ dots fuel (46 ∷ t ++ more)
dots_most t a zero more h = absurd (omega arith)
dots_most t (spellings.IsAfterDot.identifier s i) (suc fuel) more h = joined_least _ _ _ (part_identifier t more i)
dots_most t (spellings.IsAfterDot.symbol s i) (suc fuel) more h = joined_least _ _ _ (part_symbol t more i)
dots_most t (spellings.IsAfterDot.more q s i a) (suc fuel) more h =
    let e = dots_dotted q s more fuel i in
    let total = length-append (q ++ 46 ∷ s) more in
    let inner = length-append q (46 ∷ s) in
    let rest = length-append s more in
    let ih = dots_most s a fuel more (omega (arith, total, inner, rest, h)) in
    omega (arith, e, ih, inner)
