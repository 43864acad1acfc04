-- Constants behind an optional `~`: integers, words and reals.
use Rattle.std.proofs.Common.{◌≡◌, ◌≢◌, ℕ, ◌+◌, ◌<◌, ◌≤◌, Bool, true, false, ◌&&◌, eqb, leb, ltb, List, [], ◌∷◌, ◌++◌, length, take, drop, get_or, refl, sym, ap, ◌∙◌, subst, arith, ◌⊎◌, inl, inr}
use Rattle.std.specs.List.{prefix_len}
use Rattle.std.proofs.lemmas.List.{append_assoc, length-append, take_at, drop_at, length-drop}
use Rattle.std.proofs.lemmas.List.Sums.{prefix_len-le-length}
use Rattle.std.proofs.lemmas.Bool.{and_parts, and_from, and_left, and_right, eqb-true, cond-true, cond-false, eq-eqb, ne_eqb, cases_Bool, cases_eq, ltb-true, ltb-false, lt-ltb, le-ltb, le-leb}
use Rattle.sml_lexer.specs.declared.plain.Found.{Found}
use Rattle.sml_lexer.specs.declared.plain.Class.{Class}
use Rattle.sml_lexer.specs.declared.plain.Class.TheVariants.{Int, WordLit, Real}
use Rattle.sml_lexer.specs.declared.bytes.ByteClass.{ByteClass}
use Rattle.sml_lexer.specs.declared.bytes.ByteClass.TheVariants.{Digit, Hexadecimal}
use Rattle.sml_lexer.specs.Bytes.{is_digit, is_hexadecimal}
use Rattle.sml_lexer.specs.Classes.{in_class}
use Rattle.sml_lexer.specs.Numbers.{AreSome}
use Rattle.sml_lexer.specs.PlainScan.{prefixed_len, hexadecimal_word_len, real_len, digits_found, number_found, unsigned_at}
use Rattle.sml_lexer.proofs.RunLemmas.{run_stop, run_whole}
use Rattle.sml_lexer.proofs.ByteLemmas.{digit_range}
use Rattle.sml_lexer.proofs.WordLemmas.{take_plus}
use Rattle.sml_lexer.proofs.NumberLemmas.{Front, nothing, some, RealTail, real_front, real_first, real_least, all_some, some_size, some_run, run_least, First}

-- a constant without its `~`; a word constant has none
pub data IsUnsigned : Bool → List ℕ → Class → Type 0 where
  hexadecimal : (negative : Bool) (s : List ℕ) → AreSome is_hexadecimal s → IsUnsigned negative (48 ∷ 120 ∷ s) Int
  hexadecimal_word : (s : List ℕ) → AreSome is_hexadecimal s → IsUnsigned false (48 ∷ 119 ∷ 120 ∷ s) WordLit
  word : (s : List ℕ) → AreSome is_digit s → IsUnsigned false (48 ∷ 119 ∷ s) WordLit
  real : (negative : Bool) (s t : List ℕ) → AreSome is_digit s → RealTail t → IsUnsigned negative (s ++ t) Real
  digits : (negative : Bool) (s : List ℕ) → AreSome is_digit s → IsUnsigned negative s Int

-- `pre`, and behind it a run of a class
data Prefixed (pre : List ℕ) (p : ℕ → Bool) (s : List ℕ) (n : ℕ) : Type 0 where
  absent : n ≡ 0 → Prefixed pre p s n
  present : (r : List ℕ) → s ≡ pre ++ r → n ≡ prefix_len p r → n ≢ 0 → Prefixed pre p s n

or_nothing : (pre : List ℕ) (p : ℕ → Bool) (s r : List ℕ) → s ≡ pre ++ r → Prefixed pre p s (prefix_len p r)
or_nothing pre p s r e = go (cases_eq (prefix_len p r) 0)
  where
    go : (prefix_len p r ≡ 0) ⊎ (prefix_len p r ≢ 0) → Prefixed pre p s (prefix_len p r)
    go (inl z) = absent z
    go (inr z) = present r e refl z

prefixed_is : (letter : ℕ) (class : ByteClass) (s : List ℕ) → Prefixed (48 ∷ letter ∷ []) (in_class class) s (prefixed_len letter class s)
unfolding prefixed_len
prefixed_is letter class [] = absent refl
prefixed_is letter class (a ∷ []) = absent refl
prefixed_is letter class (a ∷ b ∷ s) = go (cases_Bool test)
  where
    test : Bool
    test = leb 2 (length (a ∷ b ∷ s)) && eqb a 48 && eqb b letter

    go : (test ≡ true) ⊎ (test ≡ false) → Prefixed (48 ∷ letter ∷ []) (in_class class) (a ∷ b ∷ s) (prefixed_len letter class (a ∷ b ∷ s))
    go (inl h) =
        let (h01, h2) = and_parts _ _ h in
        let (h0, h1) = and_parts _ _ h01 in
        let e : a ∷ b ∷ s ≡ 48 ∷ letter ∷ s = ap (λ x. x ∷ b ∷ s) (eqb-true _ _ h1) ∙ ap (λ x. 48 ∷ x ∷ s) (eqb-true _ _ h2) in
        subst (Prefixed (48 ∷ letter ∷ []) (in_class class) (a ∷ b ∷ s)) (sym (cond-true _ _ _ h)) (or_nothing (48 ∷ letter ∷ []) (in_class class) (a ∷ b ∷ s) s e)
    go (inr h) = absent (cond-false _ _ _ h)

word_prefixed_is : (s : List ℕ) → Prefixed (48 ∷ 119 ∷ 120 ∷ []) is_hexadecimal s (hexadecimal_word_len s)
unfolding hexadecimal_word_len
word_prefixed_is [] = absent refl
word_prefixed_is (a ∷ []) = absent refl
word_prefixed_is (a ∷ b ∷ []) = absent refl
word_prefixed_is (a ∷ b ∷ c ∷ s) = go (cases_Bool test)
  where
    test : Bool
    test = leb 3 (length (a ∷ b ∷ c ∷ s)) && eqb a 48 && eqb b 119 && eqb c 120

    go : (test ≡ true) ⊎ (test ≡ false) → Prefixed (48 ∷ 119 ∷ 120 ∷ []) is_hexadecimal (a ∷ b ∷ c ∷ s) (hexadecimal_word_len (a ∷ b ∷ c ∷ s))
    go (inl h) =
        let (h012, h3) = and_parts _ _ h in
        let (h01, h2) = and_parts _ _ h012 in
        let (h0, h1) = and_parts _ _ h01 in
        let e : a ∷ b ∷ c ∷ s ≡ 48 ∷ 119 ∷ 120 ∷ s = ap (λ x. x ∷ b ∷ c ∷ s) (eqb-true _ _ h1) ∙ ap (λ x. 48 ∷ x ∷ c ∷ s) (eqb-true _ _ h2) ∙ ap (λ x. 48 ∷ 119 ∷ x ∷ s) (eqb-true _ _ h3) in
        subst (Prefixed (48 ∷ 119 ∷ 120 ∷ []) is_hexadecimal (a ∷ b ∷ c ∷ s)) (sym (cond-true _ _ _ h)) (or_nothing (48 ∷ 119 ∷ 120 ∷ []) is_hexadecimal (a ∷ b ∷ c ∷ s) s e)
    go (inr h) = absent (cond-false _ _ _ h)

-- what was found, and what it is
pub record IsFoundAs (negative : Bool) (s : List ℕ) (f : Found) : Type 0 where
  pub some : f.len ≢ 0
  pub within : f.len ≤ length s
  pub is : IsUnsigned negative (take f.len s) f.class

prefix_found : (negative : Bool) (pre : List ℕ) (p : ℕ → Bool) (s r : List ℕ) (class : Class) → s ≡ pre ++ r → prefix_len p r ≢ 0 → ((t : List ℕ) → AreSome p t → IsUnsigned negative (pre ++ t) class)
    → IsFoundAs negative s (record { len = length pre + prefix_len p r; class = class })
prefix_found negative pre p s r class e z make =
    let l = ap length e ∙ length-append pre r in
    let b = prefix_len-le-length p r in
    let front : take (length pre + prefix_len p r) s ≡ pre ++ take (prefix_len p r) r = ap (take (length pre + prefix_len p r)) e ∙ take_plus (length pre) _ (pre ++ r) (let k = length-append pre r in omega arith) ∙ ap (λ x. x ++ take (prefix_len p r) (drop (length pre) (pre ++ r))) (take_at pre r (length pre) refl) ∙ ap (λ x. pre ++ take (prefix_len p r) x) (drop_at pre r (length pre) refl) in
    record { some = omega (arith, z); within = omega arith; is = subst (λ x. IsUnsigned negative x class) (sym front) (make _ (some_run p r z)) }

digits_are : (negative : Bool) (s : List ℕ) → prefix_len is_digit s ≢ 0 → IsFoundAs negative s (digits_found (prefix_len is_digit s) (real_len (drop (prefix_len is_digit s) s)))
digits_are negative s z = go (real_front (drop n s))
  where
    n : ℕ
    n = prefix_len is_digit s

    r : ℕ
    r = real_len (drop (prefix_len is_digit s) s)

    b : n ≤ length s
    b = prefix_len-le-length is_digit s

    go : Front RealTail (drop n s) r → IsFoundAs negative s (digits_found n r)
    go (nothing y) = subst (IsFoundAs negative s) (sym (cond-false _ _ _ (le-ltb 0 r (omega arith)))) (record { some = z; within = b; is = digits negative _ (some_run is_digit s z) })
    go (some y c q) =
        let l = length-drop n s in
        subst (IsFoundAs negative s) (sym (cond-true _ _ _ (lt-ltb 0 r (omega (arith, y)))))
        (record { some = omega (arith, z); within = omega (arith, b, c); is = subst (λ x. IsUnsigned negative x Real) (sym (take_plus n r s b)) (real negative _ _ (some_run is_digit s z) q) })

pub unsigned_is : (negative : Bool) (s : List ℕ) → prefix_len is_digit s ≢ 0 → IsFoundAs negative s (unsigned_at negative s)
unfolding unsigned_at
unsigned_is negative s z = go negative (prefixed_is 120 Hexadecimal s) (word_prefixed_is s) (prefixed_is 119 Digit s)
  where
    h : ℕ
    h = prefixed_len 120 Hexadecimal s

    x : ℕ
    x = hexadecimal_word_len s

    w : ℕ
    w = prefixed_len 119 Digit s

    d : Found
    d = digits_found (prefix_len is_digit s) (real_len (drop (prefix_len is_digit s) s))

    zero_not : (n : ℕ) → n ≡ 0 → ltb 0 n ≡ false
    zero_not n e = le-ltb 0 n (omega arith)

    go : (negative : Bool) → Prefixed (48 ∷ 120 ∷ []) is_hexadecimal s h → Prefixed (48 ∷ 119 ∷ 120 ∷ []) is_hexadecimal s x → Prefixed (48 ∷ 119 ∷ []) is_digit s w
        → IsFoundAs negative s (number_found negative h x w (prefix_len is_digit s) (real_len (drop (prefix_len is_digit s) s)))
    go negative (present r e n ne) _ _ =
        subst (IsFoundAs negative s) (sym (cond-true _ _ _ (lt-ltb 0 h (omega (arith, ne))) ∙ ap (λ k. record { len = 2 + k; class = Int }) n))
        (prefix_found negative (48 ∷ 120 ∷ []) is_hexadecimal s r Int e (λ q. ne (n ∙ q)) (λ t a. hexadecimal negative t a))
    go true (absent a) _ _ = subst (IsFoundAs true s) (sym (cond-false _ _ _ (zero_not h a))) (digits_are true s z)
    go false (absent a) (present r e n ne) _ =
        subst (IsFoundAs false s) (sym (cond-false _ _ _ (zero_not h a) ∙ cond-true _ _ _ (lt-ltb 0 x (omega (arith, ne))) ∙ ap (λ k. record { len = 3 + k; class = WordLit }) n))
        (prefix_found false (48 ∷ 119 ∷ 120 ∷ []) is_hexadecimal s r WordLit e (λ q. ne (n ∙ q)) (λ t a. hexadecimal_word t a))
    go false (absent a) (absent b) (present r e n ne) =
        subst (IsFoundAs false s) (sym (cond-false _ _ _ (zero_not h a) ∙ cond-false _ _ _ (zero_not x b) ∙ cond-true _ _ _ (lt-ltb 0 w (omega (arith, ne))) ∙ ap (λ k. record { len = 2 + k; class = WordLit }) n))
        (prefix_found false (48 ∷ 119 ∷ []) is_digit s r WordLit e (λ q. ne (n ∙ q)) (λ t a. word t a))
    go false (absent a) (absent b) (absent c) =
        subst (IsFoundAs false s) (sym (cond-false _ _ _ (zero_not h a) ∙ cond-false _ _ _ (zero_not x b) ∙ cond-false _ _ _ (zero_not w c))) (digits_are false s z)

-- what was found is no shorter than t, and of its class if it isn't longer
pub record IsMostAs (t : List ℕ) (class : Class) (f : Found) : Type 0 where
  pub bound : length t ≤ f.len
  pub same : length t ≡ f.len → f.class ≡ class

-- where a letter stands behind `0`, one digit stands at the front
one_digit : (letter : ℕ) (p : ℕ → Bool) (pre s : List ℕ) (n : ℕ) → is_digit letter ≡ false → Prefixed (48 ∷ letter ∷ pre) p s n → n ≢ 0 → prefix_len is_digit s ≡ 1
unfolding is_digit
one_digit letter p pre s n h (absent z) ne = absurd (ne z)
one_digit letter p pre s n h (present r e q z) ne =
    let k : prefix_len is_digit (letter ∷ (pre ++ r)) ≡ 0 = run_stop is_digit letter (pre ++ r) h in
    ap (prefix_len is_digit) e ∙ ap (λ n. 1 + n) k

cases_ltb : (n : ℕ) → ((ltb 0 n ≡ true) × (n ≢ 0)) ⊎ ((ltb 0 n ≡ false) × (n ≡ 0))
cases_ltb n = go (cases_Bool (ltb 0 n))
  where
    go : (ltb 0 n ≡ true) ⊎ (ltb 0 n ≡ false) → ((ltb 0 n ≡ true) × (n ≢ 0)) ⊎ ((ltb 0 n ≡ false) × (n ≡ 0))
    go (inl h) = let k = ltb-true 0 n h in inl (h, omega arith)
    go (inr h) = let k = ltb-false 0 n h in inr (h, omega arith)

-- whatever the digits at the front are part of is no shorter
found_least : (t : List ℕ) (negative : Bool) (h x w d r : ℕ) → (h ≢ 0 → d ≡ 1) → (x ≢ 0 → d ≡ 1) → (w ≢ 0 → d ≡ 1) → length t ≤ d → IsMostAs t Int (number_found negative h x w d r)
found_least t negative h x w d r oh ox ow l = go negative (cases_ltb h) (cases_ltb x) (cases_ltb w) (cases_ltb r)
  where
    on : (n : ℕ) → Type 0
    on n = ((ltb 0 n ≡ true) × (n ≢ 0)) ⊎ ((ltb 0 n ≡ false) × (n ≡ 0))

    digits_end : on r → IsMostAs t Int (digits_found d r)
    digits_end (inl (b, ne)) = subst (IsMostAs t Int) (sym (cond-true _ _ _ b)) (record { bound = omega arith; same = λ e. absurd (omega (arith, ne, e)) })
    digits_end (inr (b, z)) = subst (IsMostAs t Int) (sym (cond-false _ _ _ b)) (record { bound = l; same = λ e. refl })

    go : (negative : Bool) → on h → on x → on w → on r → IsMostAs t Int (number_found negative h x w d r)
    go negative (inl (b, ne)) _ _ _ = subst (IsMostAs t Int) (sym (cond-true _ _ _ b)) (record { bound = let o = oh ne in omega arith; same = λ e. refl })
    go true (inr (b, z)) _ _ q = subst (IsMostAs t Int) (sym (cond-false _ _ _ b)) (digits_end q)
    go false (inr (b, z)) (inl (c, ne)) _ _ = subst (IsMostAs t Int) (sym (cond-false _ _ _ b ∙ cond-true _ _ _ c)) (record { bound = let o = ox ne in omega arith; same = λ e. absurd (let o = ox ne in omega (arith, e)) })
    go false (inr (b, z)) (inr (c, y)) (inl (a, ne)) _ = subst (IsMostAs t Int) (sym (cond-false _ _ _ b ∙ cond-false _ _ _ c ∙ cond-true _ _ _ a)) (record { bound = let o = ow ne in omega arith; same = λ e. absurd (let o = ow ne in omega (arith, e)) })
    go false (inr (b, z)) (inr (c, y)) (inr (a, v)) q = subst (IsMostAs t Int) (sym (cond-false _ _ _ b ∙ cond-false _ _ _ c ∙ cond-false _ _ _ a)) (digits_end q)

digits_most : (negative : Bool) (t more : List ℕ) → AreSome is_digit t → IsMostAs t Int (unsigned_at negative (t ++ more))
unfolding unsigned_at is_digit
digits_most negative t more h =
    let s = t ++ more in
    found_least t negative _ _ _ _ _ (one_digit 120 is_hexadecimal [] s _ refl (prefixed_is 120 Hexadecimal s)) (one_digit 119 is_hexadecimal (120 ∷ []) s _ refl (word_prefixed_is s)) (one_digit 119 is_digit [] s _ refl (prefixed_is 119 Digit s)) (run_least is_digit t more h)

prefixed_value : (letter : ℕ) (class : ByteClass) (s : List ℕ) → prefixed_len letter class (48 ∷ letter ∷ s) ≡ prefix_len (in_class class) s
unfolding prefixed_len
prefixed_value letter class s = cond-true _ _ _ (and_from _ _ (and_from _ _ (le-leb 2 (length (48 ∷ letter ∷ s)) (omega arith)) refl) (eq-eqb letter letter refl))

prefixed_other : (letter : ℕ) (class : ByteClass) (s : List ℕ) → get_or s 1 0 ≢ letter → prefixed_len letter class s ≡ 0
unfolding prefixed_len
prefixed_other letter class s h = cond-false _ _ _ (and_right _ _ (ne_eqb _ _ h))

word_value : (s : List ℕ) → hexadecimal_word_len (48 ∷ 119 ∷ 120 ∷ s) ≡ prefix_len is_hexadecimal s
unfolding hexadecimal_word_len
word_value s = cond-true _ _ _ (and_from _ _ (and_from _ _ (and_from _ _ (le-leb 3 (length (48 ∷ 119 ∷ 120 ∷ s)) (omega arith)) refl) refl) refl)

word_second : (s : List ℕ) → get_or s 1 0 ≢ 119 → hexadecimal_word_len s ≡ 0
unfolding hexadecimal_word_len
word_second s h = cond-false _ _ _ (and_left _ _ (and_right _ _ (ne_eqb _ _ h)))

word_third : (s : List ℕ) → get_or s 2 0 ≢ 120 → hexadecimal_word_len s ≡ 0
unfolding hexadecimal_word_len
word_third s h = cond-false _ _ _ (and_right _ _ (ne_eqb _ _ h))

positive : (n : ℕ) → 0 < n → ltb 0 n ≡ true
positive n h = lt-ltb 0 n h

zero_not : (n : ℕ) → n ≡ 0 → ltb 0 n ≡ false
zero_not n e = le-ltb 0 n (omega arith)

hexadecimal_most : (negative : Bool) (t more : List ℕ) → AreSome is_hexadecimal t → IsMostAs (48 ∷ 120 ∷ t) Int (unsigned_at negative (48 ∷ 120 ∷ t ++ more))
unfolding unsigned_at
hexadecimal_most negative t more h =
    let e = prefixed_value 120 Hexadecimal (t ++ more) in
    let l = run_least is_hexadecimal t more h in
    let z = some_size is_hexadecimal t h in
    subst (IsMostAs (48 ∷ 120 ∷ t) Int) (sym (cond-true _ _ _ (positive (prefixed_len 120 Hexadecimal (48 ∷ 120 ∷ t ++ more)) (omega (arith, e))))) (record { bound = omega (arith, e); same = λ q. refl })

hexadecimal_word_most : (t more : List ℕ) → AreSome is_hexadecimal t → IsMostAs (48 ∷ 119 ∷ 120 ∷ t) WordLit (unsigned_at false (48 ∷ 119 ∷ 120 ∷ t ++ more))
unfolding unsigned_at
hexadecimal_word_most t more h =
    let s : List ℕ = 48 ∷ 119 ∷ 120 ∷ t ++ more in
    let e = word_value (t ++ more) in
    let l = run_least is_hexadecimal t more h in
    let z = some_size is_hexadecimal t h in
    let no = prefixed_other 120 Hexadecimal s (omega arith) in
    subst (IsMostAs (48 ∷ 119 ∷ 120 ∷ t) WordLit) (sym (cond-false _ _ _ (zero_not _ no) ∙ cond-true _ _ _ (positive (hexadecimal_word_len s) (omega (arith, e))))) (record { bound = omega (arith, e); same = λ q. refl })

digit_first : (t more : List ℕ) → AreSome is_digit t → is_digit (get_or (t ++ more) 0 0) ≡ true
digit_first [] more h = absurd h
digit_first (c ∷ t) more h = (and_parts _ _ h).0

word_most : (t more : List ℕ) → AreSome is_digit t → IsMostAs (48 ∷ 119 ∷ t) WordLit (unsigned_at false (48 ∷ 119 ∷ t ++ more))
unfolding unsigned_at
word_most t more h =
    let s : List ℕ = 48 ∷ 119 ∷ t ++ more in
    let e = prefixed_value 119 Digit (t ++ more) in
    let l = run_least is_digit t more h in
    let z = some_size is_digit t h in
    let no = prefixed_other 120 Hexadecimal s (omega arith) in
    let d = digit_range _ (digit_first t more h) in
    let nx = word_third s (omega (arith, d)) in
    subst (IsMostAs (48 ∷ 119 ∷ t) WordLit) (sym (cond-false _ _ _ (zero_not _ no) ∙ cond-false _ _ _ (zero_not _ nx) ∙ cond-true _ _ _ (positive (prefixed_len 119 Digit s) (omega (arith, e))))) (record { bound = omega (arith, e); same = λ q. refl })

second_byte : (s t more : List ℕ) → AreSome is_digit s → (c : ℕ) (r : List ℕ) → First t c r → (get_or ((s ++ t) ++ more) 1 0 ≢ 120) × (get_or ((s ++ t) ++ more) 1 0 ≢ 119)
second_byte [] t more h c r f = absurd h
second_byte (a ∷ []) t more h c r f = let e : get_or ((a ∷ [] ++ t) ++ more) 1 0 ≡ c = ap (λ x. get_or (x ++ more) 0 0) f.is in (λ q. f.no_x (sym e ∙ q), λ q. f.no_w (sym e ∙ q))
second_byte (a ∷ b ∷ s) t more h c r f = let d = digit_range b (and_parts _ _ (and_parts _ _ h).1).0 in (omega (arith, d), omega (arith, d))

real_most : (negative : Bool) (s t more : List ℕ) → AreSome is_digit s → RealTail t → IsMostAs (s ++ t) Real (unsigned_at negative ((s ++ t) ++ more))
unfolding unsigned_at
real_most negative s t more h q = go negative
  where
    x : List ℕ
    x = (s ++ t) ++ more

    f : (c : ℕ) × (r : List ℕ) × First t c r
    f = real_first t q

    b : (get_or x 1 0 ≢ 120) × (get_or x 1 0 ≢ 119)
    b = second_byte s t more h f.0 f.1 f.2

    run : prefix_len is_digit x ≡ length s
    run = ap (prefix_len is_digit) (append_assoc s t more) ∙ ap (λ y. prefix_len is_digit (s ++ (y ++ more))) f.2.is ∙ run_whole is_digit s f.0 (f.1 ++ more) (all_some is_digit s h) f.2.other

    left : drop (prefix_len is_digit x) x ≡ t ++ more
    left = ap (λ n. drop n x) run ∙ ap (drop (length s)) (append_assoc s t more) ∙ drop_at s (t ++ more) (length s) refl

    least : length t ≤ real_len (drop (prefix_len is_digit x) x)
    least = let l = real_least t more q in let e = ap real_len left in omega (arith, e)

    size : 0 < length t
    size = let e = ap length f.2.is in omega arith

    most : IsMostAs (s ++ t) Real (digits_found (prefix_len is_digit x) (real_len (drop (prefix_len is_digit x) x)))
    most =
        let k = length-append s t in
        subst (IsMostAs (s ++ t) Real) (sym (cond-true _ _ _ (positive (real_len (drop (prefix_len is_digit x) x)) (omega (arith, least, size))))) (record { bound = omega (arith, run, least); same = λ e. refl })

    no_h : ltb 0 (prefixed_len 120 Hexadecimal x) ≡ false
    no_h = zero_not _ (prefixed_other 120 Hexadecimal x b.0)

    no_x : ltb 0 (hexadecimal_word_len x) ≡ false
    no_x = zero_not _ (word_second x b.1)

    no_w : ltb 0 (prefixed_len 119 Digit x) ≡ false
    no_w = zero_not _ (prefixed_other 119 Digit x b.1)

    go : (negative : Bool) → IsMostAs (s ++ t) Real (number_found negative (prefixed_len 120 Hexadecimal x) (hexadecimal_word_len x) (prefixed_len 119 Digit x) (prefix_len is_digit x) (real_len (drop (prefix_len is_digit x) x)))
    go true = subst (IsMostAs (s ++ t) Real) (sym (cond-false _ _ _ no_h)) most
    go false = subst (IsMostAs (s ++ t) Real) (sym (cond-false _ _ _ no_h ∙ cond-false _ _ _ no_x ∙ cond-false _ _ _ no_w)) most

pub unsigned_most : (negative : Bool) (t : List ℕ) (class : Class) → IsUnsigned negative t class → (more : List ℕ) → IsMostAs t class (unsigned_at negative (t ++ more))
unsigned_most negative t class (hexadecimal n s h) more = hexadecimal_most negative s more h
unsigned_most negative t class (hexadecimal_word s h) more = hexadecimal_word_most s more h
unsigned_most negative t class (word s h) more = word_most s more h
unsigned_most negative t class (real n s r h q) more = real_most negative s r more h q
unsigned_most negative t class (digits n s h) more = digits_most negative t more h
