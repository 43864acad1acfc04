-- Numbers that the scan finds are spellings, and the longest.
use Rattle.std.proofs.Common.{◌≡◌, ◌≢◌, ℕ, zero, suc, ◌+◌, ◌<◌, ◌≤◌, Bool, true, false, ◌&&◌, eqb, leb, List, [], ◌∷◌, ◌++◌, length, take, drop, refl, sym, ap, ◌∙◌, subst, arith, ◌⊎◌, inl, inr}
use Rattle.std.specs.List.{prefix_len, list_all}
use Rattle.std.proofs.lemmas.List.{append_assoc, length-append, drop_at, length-drop}
use Rattle.std.proofs.lemmas.List.Sums.{prefix_len-le-length}
use Rattle.std.proofs.lemmas.Bool.{and_parts, and_from, and_right, or_left, or_right, or_from, cond-true, cond-false, eq-eqb, ne_eqb, cases_eq, lt-ltb, le-ltb, le-leb}
use Rattle.sml_lexer.specs.Bytes.{is_digit}
use Rattle.sml_lexer.specs.Numbers.{AreSome}
use Rattle.sml_lexer.specs.Spellings.{Spells, IsDecimal, IsExponent}
use Rattle.sml_lexer.specs.Spellings as spellings
use Rattle.sml_lexer.specs.PlainScan.{behind_one, fraction_len, decimal_len, exponent_len, real_len}
use Rattle.sml_lexer.proofs.RunLemmas.{run-append, run_whole, run_take}
use Rattle.sml_lexer.proofs.ByteLemmas.{digit_range}
use Rattle.sml_lexer.proofs.WordLemmas.{take_plus}

-- some bytes of a class
pub all_some : (p : ℕ → Bool) (t : List ℕ) → AreSome p t → list_all p t ≡ true
all_some p [] h = absurd h
all_some p (c ∷ t) h = h

pub some_size : (p : ℕ → Bool) (t : List ℕ) → AreSome p t → 0 < length t
some_size p [] h = absurd h
some_size p (c ∷ t) h = omega arith

pub some_run : (p : ℕ → Bool) (s : List ℕ) → prefix_len p s ≢ 0 → AreSome p (take (prefix_len p s) s)
some_run p s h = go (prefix_len p s) refl s refl
  where
    go : (n : ℕ) → prefix_len p s ≡ n → (r : List ℕ) → s ≡ r → AreSome p (take n r)
    go zero e r q = absurd (h e)
    go (suc n) e [] q = absurd (h (ap (prefix_len p) q))
    go (suc n) e (c ∷ r) q = subst (λ x. list_all p x ≡ true) (ap (λ x. take (prefix_len p s) x) q ∙ ap (λ k. take k (c ∷ r)) e) (run_take p s)

pub run_least : (p : ℕ → Bool) (t more : List ℕ) → AreSome p t → length t ≤ prefix_len p (t ++ more)
run_least p t more h = let e = run-append p t more (all_some p t h) in omega (arith, e)

one_behind : (n : ℕ) → n ≢ 0 → behind_one n ≡ n + 1
one_behind n h = cond-true _ _ _ (lt-ltb 0 n (omega (arith, h)))

none_behind : (n : ℕ) → n ≡ 0 → behind_one n ≡ 0
none_behind n h = cond-false _ _ _ (le-ltb 0 n (omega arith))

at_least_one : (c : ℕ) (s : List ℕ) → leb 1 (length (c ∷ s)) ≡ true
at_least_one c s = le-leb 1 (length (c ∷ s)) (omega arith)

begins : (c b : ℕ) (s : List ℕ) → b ≡ c → (leb 1 (length (b ∷ s)) && eqb b c) ≡ true
begins c b s e = and_from _ _ (at_least_one b s) (eq-eqb _ _ e)

begins_not : (c b : ℕ) (s : List ℕ) → b ≢ c → (leb 1 (length (b ∷ s)) && eqb b c) ≡ false
begins_not c b s e = and_right _ _ (ne_eqb _ _ e)

fraction_cons : (s : List ℕ) → fraction_len (46 ∷ s) ≡ behind_one (prefix_len is_digit s)
unfolding fraction_len
fraction_cons s = cond-true _ _ _ (begins 46 46 s refl)

fraction_other : (c : ℕ) (s : List ℕ) → c ≢ 46 → fraction_len (c ∷ s) ≡ 0
unfolding fraction_len
fraction_other c s h = cond-false _ _ _ (begins_not 46 c s h)

fraction_none : fraction_len [] ≡ 0
unfolding fraction_len
fraction_none = refl

decimal_negative : (s : List ℕ) → decimal_len (126 ∷ s) ≡ behind_one (prefix_len is_digit s)
unfolding decimal_len
decimal_negative s = cond-true _ _ _ (begins 126 126 s refl)

decimal_plain : (c : ℕ) (s : List ℕ) → c ≢ 126 → decimal_len (c ∷ s) ≡ prefix_len is_digit (c ∷ s)
unfolding decimal_len
decimal_plain c s h = cond-false _ _ _ (begins_not 126 c s h)

decimal_none : decimal_len [] ≡ 0
unfolding decimal_len
decimal_none = refl

exponent_cons : (c : ℕ) (s : List ℕ) → (c ≡ 101) ⊎ (c ≡ 69) → exponent_len (c ∷ s) ≡ behind_one (decimal_len s)
unfolding exponent_len
exponent_cons c s (inl h) = cond-true _ _ _ (and_from _ _ (at_least_one c s) (or_left _ _ (eq-eqb _ _ h)))
exponent_cons c s (inr h) = cond-true _ _ _ (and_from _ _ (at_least_one c s) (or_right _ _ (eq-eqb _ _ h)))

exponent_other : (c : ℕ) (s : List ℕ) → c ≢ 101 → c ≢ 69 → exponent_len (c ∷ s) ≡ 0
unfolding exponent_len
exponent_other c s h k = cond-false _ _ _ (and_right _ _ (or_from _ _ (ne_eqb _ _ h) (ne_eqb _ _ k)))

exponent_none : exponent_len [] ≡ 0
unfolding exponent_len
exponent_none = refl

-- what is found at the front, or nothing
pub data Front (P : List ℕ → Type 0) (s : List ℕ) (n : ℕ) : Type 0 where
  nothing : n ≡ 0 → Front P s n
  some : n ≢ 0 → n ≤ length s → P (take n s) → Front P s n

IsFraction : List ℕ → Type 0
IsFraction s = (t : List ℕ) × (s ≡ 46 ∷ t) × AreSome is_digit t

-- behind one byte
front_cons : (P Q : List ℕ → Type 0) (c : ℕ) (s : List ℕ) (n : ℕ) → ((t : List ℕ) → P t → Q (c ∷ t)) → Front P s n → Front Q (c ∷ s) (behind_one n)
front_cons P Q c s n make (nothing z) = nothing (none_behind n z)
front_cons P Q c s n make (some z b p) =
    let e = one_behind n z in
    let k : suc n ≡ behind_one n = omega (arith, e) in
    some (omega (arith, e)) (omega (arith, e)) (subst Q (ap (λ m. take m (c ∷ s)) k) (make _ p))

pub digits_front : (s : List ℕ) → Front (AreSome is_digit) s (prefix_len is_digit s)
digits_front s = go (cases_eq (prefix_len is_digit s) 0)
  where
    go : (prefix_len is_digit s ≡ 0) ⊎ (prefix_len is_digit s ≢ 0) → Front (AreSome is_digit) s (prefix_len is_digit s)
    go (inl z) = nothing z
    go (inr z) = some z (prefix_len-le-length is_digit s) (some_run is_digit s z)

fraction_front : (s : List ℕ) → Front IsFraction s (fraction_len s)
unfolding IsFraction
fraction_front [] = nothing fraction_none
fraction_front (c ∷ s) = go (cases_eq c 46)
  where
    go : (c ≡ 46) ⊎ (c ≢ 46) → Front IsFraction (c ∷ s) (fraction_len (c ∷ s))
    go (inl h) = subst (λ x. Front IsFraction (x ∷ s) (fraction_len (x ∷ s))) (sym h) (subst (Front IsFraction (46 ∷ s)) (sym (fraction_cons s)) (front_cons (AreSome is_digit) IsFraction 46 s _ (λ t p. (t, refl, p)) (digits_front s)))
    go (inr h) = nothing (fraction_other c s h)

decimal_front : (s : List ℕ) → Front IsDecimal s (decimal_len s)
decimal_front [] = nothing decimal_none
decimal_front (c ∷ s) = go (cases_eq c 126) (digits_front (c ∷ s))
  where
    plain : (c ≢ 126) → Front (AreSome is_digit) (c ∷ s) (prefix_len is_digit (c ∷ s)) → Front IsDecimal (c ∷ s) (prefix_len is_digit (c ∷ s))
    plain h (nothing z) = nothing z
    plain h (some z b p) = some z b (spellings.IsDecimal.plain _ p)

    go : (c ≡ 126) ⊎ (c ≢ 126) → Front (AreSome is_digit) (c ∷ s) (prefix_len is_digit (c ∷ s)) → Front IsDecimal (c ∷ s) (decimal_len (c ∷ s))
    go (inl h) f = subst (λ x. Front IsDecimal (x ∷ s) (decimal_len (x ∷ s))) (sym h) (subst (Front IsDecimal (126 ∷ s)) (sym (decimal_negative s)) (front_cons (AreSome is_digit) IsDecimal 126 s _ (λ t p. spellings.IsDecimal.negative t p) (digits_front s)))
    go (inr h) f = subst (Front IsDecimal (c ∷ s)) (sym (decimal_plain c s h)) (plain h f)

exponent_front : (s : List ℕ) → Front IsExponent s (exponent_len s)
exponent_front [] = nothing exponent_none
exponent_front (c ∷ s) = go (cases_eq c 101) (cases_eq c 69)
  where
    go : (c ≡ 101) ⊎ (c ≢ 101) → (c ≡ 69) ⊎ (c ≢ 69) → Front IsExponent (c ∷ s) (exponent_len (c ∷ s))
    go (inl h) k = subst (λ x. Front IsExponent (x ∷ s) (exponent_len (x ∷ s))) (sym h) (subst (Front IsExponent (101 ∷ s)) (sym (exponent_cons 101 s (inl refl))) (front_cons IsDecimal IsExponent 101 s _ (λ t p. spellings.IsExponent.small t p) (decimal_front s)))
    go (inr h) (inl k) = subst (λ x. Front IsExponent (x ∷ s) (exponent_len (x ∷ s))) (sym k) (subst (Front IsExponent (69 ∷ s)) (sym (exponent_cons 69 s (inr refl))) (front_cons IsDecimal IsExponent 69 s _ (λ t p. spellings.IsExponent.capital t p) (decimal_front s)))
    go (inr h) (inr k) = nothing (exponent_other c s h k)

-- what makes digits a real constant
pub data RealTail : List ℕ → Type 0 where
  fraction : (t : List ℕ) → AreSome is_digit t → RealTail (46 ∷ t)
  exponent : (e : List ℕ) → IsExponent e → RealTail e
  both : (t e : List ℕ) → AreSome is_digit t → IsExponent e → RealTail (46 ∷ t ++ e)

pub real_front : (s : List ℕ) → Front RealTail s (real_len s)
unfolding real_len IsFraction
real_front s = go (fraction_front s) (exponent_front (drop (fraction_len s) s))
  where
    go : Front IsFraction s (fraction_len s) → Front IsExponent (drop (fraction_len s) s) (exponent_len (drop (fraction_len s) s)) → Front RealTail s (real_len s)
    go (nothing z) (nothing y) = nothing (omega arith)
    go (nothing z) (some y c q) =
        let n : fraction_len s + exponent_len (drop (fraction_len s) s) ≡ exponent_len (drop (fraction_len s) s) = omega arith in
        let d : drop (fraction_len s) s ≡ s = ap (λ k. drop k s) z in
        let l = ap length d in
        some (omega (arith, y)) (omega (arith, c, l)) (exponent _ (subst IsExponent (ap (take (exponent_len (drop (fraction_len s) s))) d ∙ ap (λ k. take k s) (sym n)) q))
    go (some z b (t, is, p)) (nothing y) =
        let n : fraction_len s + exponent_len (drop (fraction_len s) s) ≡ fraction_len s = omega arith in
        some (omega (arith, z)) (omega arith) (subst RealTail (sym (ap (λ k. take k s) n ∙ is)) (fraction t p))
    go (some z b (t, is, p)) (some y c q) =
        let l = length-drop (fraction_len s) s in
        some (omega (arith, z)) (omega (arith, c)) (subst RealTail (sym (take_plus (fraction_len s) _ s b ∙ ap (λ x. x ++ take (exponent_len (drop (fraction_len s) s)) (drop (fraction_len s) s)) is)) (both t _ p q))

-- and the longest
some_not_zero : (p : ℕ → Bool) (t more : List ℕ) → AreSome p t → prefix_len p (t ++ more) ≢ 0
some_not_zero p t more h = let a = run_least p t more h in let b = some_size p t h in let ne : prefix_len p (t ++ more) ≢ 0 = omega arith in ne

behind_least : (k n : ℕ) → 0 < k → k ≤ n → suc k ≤ behind_one n
behind_least k n h l = let e = one_behind n (let ne : n ≢ 0 = omega arith in ne) in omega arith

fraction_least : (t more : List ℕ) → AreSome is_digit t → suc (length t) ≤ fraction_len (46 ∷ t ++ more)
fraction_least t more h = let e = fraction_cons (t ++ more) in let b = behind_least (length t) _ (some_size is_digit t h) (run_least is_digit t more h) in omega arith

fraction_exact : (t : List ℕ) (c : ℕ) (more : List ℕ) → AreSome is_digit t → is_digit c ≡ false → fraction_len (46 ∷ t ++ c ∷ more) ≡ suc (length t)
fraction_exact t c more h n =
    let e = run_whole is_digit t c more (all_some is_digit t h) n in
    let k = some_size is_digit t h in
    fraction_cons (t ++ c ∷ more) ∙ ap behind_one e ∙ one_behind (length t) (let ne : length t ≢ 0 = omega arith in ne) ∙ (omega arith)

digit_not_tilde : (c : ℕ) → is_digit c ≡ true → c ≢ 126
digit_not_tilde c h = let r = digit_range c h in let ne : c ≢ 126 = omega arith in ne

decimal_least : (t more : List ℕ) → IsDecimal t → length t ≤ decimal_len (t ++ more)
decimal_least t more (spellings.IsDecimal.negative s h) = let e = decimal_negative (s ++ more) in let b = behind_least (length s) _ (some_size is_digit s h) (run_least is_digit s more h) in omega arith
decimal_least t more (spellings.IsDecimal.plain s h) = plain t h
  where
    plain : (t : List ℕ) → AreSome is_digit t → length t ≤ decimal_len (t ++ more)
    plain [] h = absurd h
    plain (c ∷ t) h = let e = decimal_plain c (t ++ more) (digit_not_tilde c (and_parts _ _ h).0) in let b = run_least is_digit (c ∷ t) more h in omega arith

decimal_size : (t : List ℕ) → IsDecimal t → 0 < length t
decimal_size t (spellings.IsDecimal.negative s h) = omega arith
decimal_size t (spellings.IsDecimal.plain s h) = some_size is_digit s h

exponent_least : (t more : List ℕ) → IsExponent t → length t ≤ exponent_len (t ++ more)
exponent_least t more (spellings.IsExponent.small s h) = let e = exponent_cons 101 (s ++ more) (inl refl) in let b = behind_least (length s) _ (decimal_size s h) (decimal_least s more h) in omega arith
exponent_least t more (spellings.IsExponent.capital s h) = let e = exponent_cons 69 (s ++ more) (inr refl) in let b = behind_least (length s) _ (decimal_size s h) (decimal_least s more h) in omega arith

-- the first byte of what makes digits a real constant
pub record First (t : List ℕ) (c : ℕ) (r : List ℕ) : Type 0 where
  pub is : t ≡ c ∷ r
  pub other : is_digit c ≡ false
  pub no_x : c ≢ 120
  pub no_w : c ≢ 119

exponent_first : (t : List ℕ) → IsExponent t → (c : ℕ) × (r : List ℕ) × First t c r × (c ≢ 46)
unfolding is_digit
exponent_first t (spellings.IsExponent.small s h) = (101, s, record { is = refl; other = refl; no_x = omega arith; no_w = omega arith }, omega arith)
exponent_first t (spellings.IsExponent.capital s h) = (69, s, record { is = refl; other = refl; no_x = omega arith; no_w = omega arith }, omega arith)

pub real_first : (t : List ℕ) → RealTail t → (c : ℕ) × (r : List ℕ) × First t c r
unfolding is_digit
real_first t (fraction s h) = (46, s, record { is = refl; other = refl; no_x = omega arith; no_w = omega arith })
real_first t (both s e h k) = (46, s ++ e, record { is = refl; other = refl; no_x = omega arith; no_w = omega arith })
real_first t (exponent e k) = let x = exponent_first t k in (x.0, x.1, x.2)

pub real_least : (t more : List ℕ) → RealTail t → length t ≤ real_len (t ++ more)
unfolding real_len
real_least t more (fraction s h) = let b = fraction_least s more h in omega arith
real_least t more (exponent e h) =
    let x = exponent_first t h in
    let z : fraction_len (t ++ more) ≡ 0 = ap (λ y. fraction_len (y ++ more)) x.2.is ∙ fraction_other x.0 (x.1 ++ more) x.3 in
    let d = ap (λ k. exponent_len (drop k (t ++ more))) z in
    let b = exponent_least t more h in
    omega (arith, d)
real_least t more (both s e h k) =
    let x = exponent_first e k in
    let z : fraction_len ((46 ∷ s ++ e) ++ more) ≡ suc (length s) =
    ap fraction_len (append_assoc (46 ∷ s) e more) ∙ ap (λ y. fraction_len (46 ∷ s ++ (y ++ more))) x.2.is ∙ fraction_exact s x.0 (x.1 ++ more) h x.2.other in
    let d = ap (λ k. exponent_len (drop k ((46 ∷ s ++ e) ++ more))) z in
    let d2 = ap (λ y. exponent_len (drop (suc (length s)) y)) (append_assoc (46 ∷ s) e more) in
    let d3 = ap exponent_len (drop_at (46 ∷ s) (e ++ more) (suc (length s)) refl) in
    let b = exponent_least e more k in
    let n = length-append (46 ∷ s) e in
    omega (arith, z, d, d2, d3, b, n)
