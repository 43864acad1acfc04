-- The scan finds a spelling, and no longer one stands there.
use Rattle.std.proofs.Common.{◌≡◌, ◌≢◌, ℕ, suc, ◌+◌, ◌≤◌, Bool, true, false, ◌&&◌, eqb, leb, List, [], ◌∷◌, ◌++◌, Option, Some, None, length, take, drop, get_or, pos, neg_ℤ, refl, sym, ap, ◌∙◌, subst, arith, ◌⊎◌, inl, inr}
use Rattle.std.specs.List.{prefix_len, AllByRecursion}
use Rattle.std.proofs.lemmas.List.{append_assoc}
use Rattle.std.proofs.lemmas.Bool.{and_parts, and_from, and_left, and_right, eqb-true, cond-true, cond-false, ne_eqb, cases_Bool, cases_eq, le-leb, leb-true}
use Rattle.sml_lexer.specs.declared.plain.Found.{Found}
use Rattle.sml_lexer.specs.declared.plain.Class.{Class}
use Rattle.sml_lexer.specs.declared.plain.Class.TheVariants.{Word, Int, WordLit, Real}
use Rattle.sml_lexer.specs.declared.reserved.Reserved.{Reserved}
use Rattle.sml_lexer.specs.declared.reserved.Reserved.TheVariants.{KwDots}
use Rattle.sml_lexer.specs.Bytes.{is_letter, is_digit, is_sign}
use Rattle.sml_lexer.specs.Classified.{meaning_of}
use Rattle.sml_lexer.specs.Meanings.{Meaning}
use Rattle.sml_lexer.specs.Meanings as meaning
use Rattle.sml_lexer.specs.Numbers.{AreSome}
use Rattle.sml_lexer.specs.Quoted.{AreParts, characters}
use Rattle.sml_lexer.specs.Reserved.{spelling, reserved_of}
use Rattle.sml_lexer.specs.Spellings.{Spells, IsDecimal, IsExponent, IsSymbol, IsTypeVariable, IsLong}
use Rattle.sml_lexer.specs.Spellings as spellings
use Rattle.sml_lexer.specs.PlainScan.{word_at, sign_at, unsigned_at, negative_at, word_of, point_at, plain_at}
use Rattle.sml_lexer.proofs.ByteLemmas.{sign_not_digit}
use Rattle.sml_lexer.proofs.ReservedLemmas.{reserved_found, reserved_is, Shape, alphabetic, signs, point, dots, is_point, shape}
use Rattle.sml_lexer.proofs.WordLemmas.{letter_first}
use Rattle.sml_lexer.proofs.FoundLemmas.{IsFound, IsMost, word_is_found, identifier_most, reserved_most, long_most, sign_is_found, symbol_most, reserved_sign_most, variable_is_found, variable_most}
use Rattle.sml_lexer.proofs.NumberLemmas.{RealTail, fraction, exponent, both}
use Rattle.sml_lexer.proofs.UnsignedLemmas.{IsUnsigned, hexadecimal, hexadecimal_word, word, real, digits, unsigned_is, unsigned_most}
use Rattle.sml_lexer.proofs.PlainLemmas.{unsigned_spells, negative_spells, at_letter, at_digit, at_prime, at_tilde, at_sign, at_point, integer_decimal, integer_hexadecimal, integer_negative, magnitude_decimal, magnitude_hexadecimal}

digit_run : (s : List ℕ) → is_digit (get_or s 0 0) ≡ true → prefix_len is_digit s ≢ 0
unfolding is_digit
digit_run [] h = cc
digit_run (c ∷ s) h = let e : prefix_len is_digit (c ∷ s) ≡ 1 + prefix_len is_digit s = cond-true _ _ _ h in let ne : prefix_len is_digit (c ∷ s) ≢ 0 = omega arith in ne

unsigned_found : (s : List ℕ) → is_digit (get_or s 0 0) ≡ true → IsFound s (unsigned_at false s)
unsigned_found s h = let f = unsigned_is false s (digit_run s h) in record { some = f.some; within = f.within; spelled = unsigned_spells _ _ f.is }

negative_found : (s : List ℕ) → get_or s 0 0 ≡ 126 → is_digit (get_or s 1 0) ≡ true → IsFound s (negative_at s)
unfolding negative_at
negative_found [] h d = absurd (omega arith)
negative_found (c ∷ s) h d =
    let f = unsigned_is true s (digit_run s d) in
    let n = (unsigned_at true s).len in
    let class = (unsigned_at true s).class in
    let front : 126 ∷ take n s ≡ take (1 + n) (c ∷ s) = ap (λ x. x ∷ take n s) (sym h) ∙ ap (λ k. take k (c ∷ s)) (let e : suc n ≡ 1 + n = omega arith in e) in
    record { some = let ne : 1 + n ≢ 0 = omega arith in ne; within = let w = f.within in omega (arith, w); spelled = subst (λ x. Spells x (meaning_of class x)) front (negative_spells _ _ f.is) }

point_found : (s : List ℕ) → s ≢ [] → (f : Found) → point_at s ≡ Some f → IsFound s f
unfolding point_at
point_found s ne f e = go (cases_Bool test) (reserved_of (take 1 s)) refl
  where
    test : Bool
    test = leb 3 (length s) && eqb (get_or s 0 0) 46 && eqb (get_or s 1 0) 46 && eqb (get_or s 2 0) 46

    three : (s : List ℕ) → 3 ≤ length s → get_or s 0 0 ≡ 46 → get_or s 1 0 ≡ 46 → get_or s 2 0 ≡ 46 → 46 ∷ 46 ∷ 46 ∷ [] ≡ take 3 s
    three [] h a b c = absurd (omega arith)
    three (x ∷ []) h a b c = absurd (omega arith)
    three (x ∷ y ∷ []) h a b c = absurd (omega arith)
    three (x ∷ y ∷ z ∷ s) h a b c = ap (λ k. k ∷ 46 ∷ 46 ∷ []) (sym a) ∙ ap (λ k. x ∷ k ∷ 46 ∷ []) (sym b) ∙ ap (λ k. x ∷ y ∷ k ∷ []) (sym c)

    one : (s : List ℕ) → s ≢ [] → 1 ≤ length s
    one [] h = absurd (h refl)
    one (c ∷ s) h = omega arith

    go : (test ≡ true) ⊎ (test ≡ false) → (o : Option Reserved) → reserved_of (take 1 s) ≡ o → IsFound s f
    go (inl h) _ _ =
        let (h012, h3) = and_parts _ _ h in
        let (h01, h2) = and_parts _ _ h012 in
        let (h0, h1) = and_parts _ _ h01 in
        let k : Some (record { len = 3; class = Word KwDots }) ≡ Some f = sym (cond-true _ _ _ h) ∙ e in
        let same : record { len = 3; class = Word KwDots } ≡ f = cc in
        let long = leb-true 3 (length s) h0 in
        subst (IsFound s) same (record { some = omega arith; within = long; spelled = subst (λ x. Spells x (meaning.word KwDots)) (three s long (eqb-true _ _ h1) (eqb-true _ _ h2) (eqb-true _ _ h3)) (spellings.Spells.reserved KwDots) })
    go (inr h) None z = let k : None ≡ Some f = ap word_of (sym z) ∙ sym (cond-false _ _ _ h) ∙ e in cc
    go (inr h) (Some w) z =
        let k : Some (record { len = 1; class = Word w }) ≡ Some f = ap word_of (sym z) ∙ sym (cond-false _ _ _ h) ∙ e in
        let same : record { len = 1; class = Word w } ≡ f = cc in
        subst (IsFound s) same (record { some = omega arith; within = one s ne; spelled = subst (λ x. Spells x (meaning.word w)) (reserved_found (take 1 s) w z) (spellings.Spells.reserved w) })

-- what the scan answers is a spelling
pub plain_found : (s : List ℕ) → s ≢ [] → (f : Found) → plain_at s ≡ Some f → IsFound s f
plain_found s ne f e = go (cases_Bool (is_letter c)) (cases_Bool (is_digit c)) (cases_eq c 39) (cases_Bool (eqb c 126 && is_digit (get_or s 1 0))) (cases_Bool (is_sign c))
  where
    c : ℕ
    c = get_or s 0 0

    by : (g : Found) → plain_at s ≡ Some g → IsFound s g → IsFound s f
    by g k h = let q : Some g ≡ Some f = sym k ∙ e in let same : g ≡ f = cc in subst (IsFound s) same h

    go : (is_letter c ≡ true) ⊎ (is_letter c ≡ false) → (is_digit c ≡ true) ⊎ (is_digit c ≡ false) → (c ≡ 39) ⊎ (c ≢ 39) → ((eqb c 126 && is_digit (get_or s 1 0)) ≡ true) ⊎ ((eqb c 126 && is_digit (get_or s 1 0)) ≡ false) → (is_sign c ≡ true) ⊎ (is_sign c ≡ false) → IsFound s f
    go (inl l) _ _ _ _ = by _ (at_letter s l) (word_is_found s l)
    go (inr l) (inl d) _ _ _ = by _ (at_digit s d) (unsigned_found s d)
    go (inr l) (inr d) (inl p) _ _ = by _ (at_prime s p) (variable_is_found s p)
    go (inr l) (inr d) (inr p) (inl t) _ = let (t0, t1) = and_parts _ _ t in by _ (at_tilde s (eqb-true _ _ t0) t1) (negative_found s (eqb-true _ _ t0) t1)
    go (inr l) (inr d) (inr p) (inr t) (inl g) = by _ (at_sign s g t) (sign_is_found s g)
    go (inr l) (inr d) (inr p) (inr t) (inr g) = point_found s ne f (sym (at_point s l d p t g) ∙ e)

-- what the scan answers where t stands
pub record Most (t : List ℕ) (m : Meaning) (more : List ℕ) : Type 0 where
  pub answer : Found
  pub is : plain_at (t ++ more) ≡ Some answer
  pub most : IsMost t m answer

-- a constant in quotes
pub data Quoted : List ℕ → Meaning → Type 0 where
  string : (s codes : List ℕ) → AreParts s (characters codes) → AllByRecursion (λ n. n ≤ 255) codes → Quoted (34 ∷ s ++ 34 ∷ []) (meaning.text codes)
  character : (s : List ℕ) (n : ℕ) → AreParts s (characters (n ∷ [])) → n ≤ 255 → Quoted (35 ∷ 34 ∷ s ++ 34 ∷ []) (meaning.character n)

at_least : (t : List ℕ) (m : Meaning) (more : List ℕ) (f : Found) → plain_at (t ++ more) ≡ Some f → IsMost t m f → Most t m more
at_least t m more f e h = record { answer = f; is = e; most = h }

second : (t more : List ℕ) → AreSome is_sign t → is_digit (get_or (t ++ more) 1 0) ≡ true → length t ≡ 1
second [] more h d = absurd h
second (a ∷ []) more h d = refl
second (a ∷ b ∷ t) more h d = let s = sign_not_digit b (and_parts _ _ (and_parts _ _ h).1).0 in let k : true ≡ false = sym d ∙ s in cc

signs_most : (t more : List ℕ) (m : Meaning) → AreSome is_sign t → IsMost t m (sign_at (t ++ more)) → Most t m more
unfolding negative_at
signs_most t more m h k = go (cases_Bool (eqb c 126 && is_digit (get_or (t ++ more) 1 0)))
  where
    c : ℕ
    c = get_or (t ++ more) 0 0

    first : (t : List ℕ) → AreSome is_sign t → is_sign (get_or (t ++ more) 0 0) ≡ true
    first [] h = absurd h
    first (a ∷ t) h = (and_parts _ _ h).0

    go : ((eqb c 126 && is_digit (get_or (t ++ more) 1 0)) ≡ true) ⊎ ((eqb c 126 && is_digit (get_or (t ++ more) 1 0)) ≡ false) → Most t m more
    go (inl b) =
        let (b0, b1) = and_parts _ _ b in
        let one = second t more h b1 in
        let f = negative_found (t ++ more) (eqb-true _ _ b0) b1 in
        let u = unsigned_is true (drop 1 (t ++ more)) (digit_run _ (tail_digit (t ++ more) b1)) in
        at_least t m more _ (at_tilde (t ++ more) (eqb-true _ _ b0) b1) (record { bound = let z = f.some in omega (arith, z); same = λ e. absurd (let z = u.some in omega (arith, z, e, one)) })
      where
        tail_digit : (s : List ℕ) → is_digit (get_or s 1 0) ≡ true → is_digit (get_or (drop 1 s) 0 0) ≡ true
        tail_digit [] d = d
        tail_digit (x ∷ s) d = d
    go (inr b) = at_least t m more _ (at_sign (t ++ more) (first t h) b) k

point_most : (w : Reserved) (c : ℕ) (more : List ℕ) → spelling w ≡ c ∷ [] → is_point c → Most (c ∷ []) (meaning.word w) more
unfolding point_at
point_most w c more e (a, b, d, t, s, dot) =
    at_least (c ∷ []) (meaning.word w) more (record { len = 1; class = Word w })
    (at_point (c ∷ more) a b d (and_left _ _ (ne_eqb _ _ t)) s
    ∙ cond-false _ _ _ (and_left _ _ (and_left _ _ (and_right _ _ (ne_eqb _ _ dot))))
    ∙ ap word_of (ap reserved_of (sym e) ∙ reserved_is w))
    (record { bound = omega arith; same = λ k. refl })

dots_most : (w : Reserved) (more : List ℕ) → spelling w ≡ 46 ∷ 46 ∷ 46 ∷ [] → Most (46 ∷ 46 ∷ 46 ∷ []) (meaning.word w) more
unfolding point_at is_letter is_digit is_sign
dots_most w more e =
    let k : Some w ≡ Some KwDots = sym (reserved_is w) ∙ ap reserved_of e ∙ reserved_is KwDots in
    let same : KwDots ≡ w = cc in
    at_least (46 ∷ 46 ∷ 46 ∷ []) (meaning.word w) more (record { len = 3; class = Word KwDots })
    (at_point (46 ∷ 46 ∷ 46 ∷ more) refl refl (omega arith) refl refl ∙ cond-true _ _ _ (and_from _ _ (and_from _ _ (and_from _ _ (le-leb 3 (length (46 ∷ 46 ∷ 46 ∷ more)) (omega arith)) refl) refl) refl))
    (record { bound = omega arith; same = λ q. ap (λ x. meaning.word x) same })

reserved_word_most : (w : Reserved) (t : List ℕ) → spelling w ≡ t → Shape t → (more : List ℕ) → Most t (meaning.word w) more
reserved_word_most w t e (alphabetic s h) more =
    at_least t _ more _ (at_letter (t ++ more) (letter_first t more h)) (subst (λ x. IsMost x (meaning.word w) (word_at (x ++ more))) e (reserved_most w more (subst (λ x. spellings.IsAlphanumeric x) (sym e) h)))
reserved_word_most w t e (signs s h) more = signs_most t more _ h (subst (λ x. IsMost x (meaning.word w) (sign_at (x ++ more))) e (reserved_sign_most w more (subst (AreSome is_sign) (sym e) h)))
reserved_word_most w t e (point c h) more = point_most w c more e h
reserved_word_most w t e dots more = dots_most w more e

-- constants
unsigned_class_most : (t more : List ℕ) (c : Class) (m : Meaning) → IsUnsigned false t c → meaning_of c t ≡ m → is_digit (get_or (t ++ more) 0 0) ≡ true → Most t m more
unsigned_class_most t more c m u e d =
    let f = unsigned_most false t c u more in
    at_least t m more _ (at_digit (t ++ more) d) (record { bound = f.bound; same = λ k. ap (λ x. meaning_of x t) (f.same k) ∙ e })

negative_class_most : (t more : List ℕ) (c : Class) (m : Meaning) → IsUnsigned true t c → meaning_of c (126 ∷ t) ≡ m → is_digit (get_or (t ++ more) 0 0) ≡ true → Most (126 ∷ t) m more
unfolding negative_at
negative_class_most t more c m u e d =
    let f = unsigned_most true t c u more in
    let b = f.bound in
    at_least (126 ∷ t) m more _ (at_tilde (126 ∷ t ++ more) refl d) (record { bound = omega (arith, b); same = λ k. ap (λ x. meaning_of x (126 ∷ t)) (f.same (omega arith)) ∙ e })

digit_head_more : (t more : List ℕ) → AreSome is_digit t → is_digit (get_or (t ++ more) 0 0) ≡ true
digit_head_more [] more h = absurd h
digit_head_more (c ∷ t) more h = (and_parts _ _ h).0

digit_head_tail : (t r more : List ℕ) → AreSome is_digit t → is_digit (get_or ((t ++ r) ++ more) 0 0) ≡ true
digit_head_tail [] r more h = absurd h
digit_head_tail (c ∷ t) r more h = (and_parts _ _ h).0

zero_digit : is_digit 48 ≡ true
unfolding is_digit
zero_digit = refl

real_class_most : (d r more : List ℕ) → IsDecimal d → RealTail r → Most (d ++ r) meaning.real more
real_class_most d r more (spellings.IsDecimal.plain s h) q = unsigned_class_most (d ++ r) more Real _ (real false d r h q) refl (digit_head_tail d r more h)
real_class_most d r more (spellings.IsDecimal.negative s h) q = negative_class_most (s ++ r) more Real _ (real true s r h q) refl (digit_head_tail s r more h)

-- Where a spelling stands that is no constant in quotes, the scan answers one that is no shorter, with the same meaning if it isn't longer.
pub plain_most : (t : List ℕ) (m : Meaning) → Spells t m → (more : List ℕ) → Quoted t m ⊎ Most t m more
plain_most t m (spellings.Spells.reserved w) more = inr (reserved_word_most w t refl (shape w) more)
plain_most t m (spellings.Spells.identifier s i) more = inr (at_least t m more _ (at_letter (t ++ more) (letter_first t more i.spelled)) (identifier_most t more i))
plain_most t m (spellings.Spells.symbol s i) more = inr (signs_most t more m i.spelled (symbol_most t more i))
plain_most t m (spellings.Spells.long s l) more = inr (of_long t l)
  where
    letter_long : (q s more : List ℕ) → spellings.IsAlphanumeric q → is_letter (get_or ((q ++ 46 ∷ s) ++ more) 0 0) ≡ true
    letter_long [] s more h = absurd h
    letter_long (c ∷ q) s more h = h.0

    of_long : (t : List ℕ) → IsLong t → Most t (meaning.long t) more
    of_long t (spellings.IsLong.long q s i a) = at_least t _ more _ (at_letter (t ++ more) (letter_long q s more i.spelled)) (long_most q s more i a)
plain_most t m (spellings.Spells.type_variable s h) more = inr (at_least t m more _ (at_prime (t ++ more) (first t h)) (variable_most t more h))
  where
    first : (t : List ℕ) → IsTypeVariable t → get_or (t ++ more) 0 0 ≡ 39
    first [] h = absurd h
    first (c ∷ t) h = h.0
plain_most t m (spellings.Spells.decimal s h) more = inr (unsigned_class_most t more Int m (digits false t h) (ap (λ z. meaning.integer z) (integer_decimal t h)) (digit_head_more t more h))
plain_most t m (spellings.Spells.negative_decimal s h) more =
    inr (negative_class_most s more Int m (digits true s h) (ap (λ z. meaning.integer z) (integer_negative s ∙ ap (λ n. neg_ℤ (pos n)) (magnitude_decimal s h))) (digit_head_more s more h))
plain_most t m (spellings.Spells.hexadecimal s h) more = inr (unsigned_class_most t more Int m (hexadecimal false s h) (ap (λ z. meaning.integer z) (integer_hexadecimal s)) zero_digit)
plain_most t m (spellings.Spells.negative_hexadecimal s h) more =
    inr (negative_class_most (48 ∷ 120 ∷ s) more Int m (hexadecimal true s h) (ap (λ z. meaning.integer z) (integer_negative (48 ∷ 120 ∷ s) ∙ ap (λ n. neg_ℤ (pos n)) (magnitude_hexadecimal s))) zero_digit)
plain_most t m (spellings.Spells.decimal_word s h) more = inr (unsigned_class_most t more WordLit m (word s h) refl zero_digit)
plain_most t m (spellings.Spells.hexadecimal_word s h) more = inr (unsigned_class_most t more WordLit m (hexadecimal_word s h) refl zero_digit)
plain_most t m (spellings.Spells.fraction s r d h) more = inr (real_class_most s (46 ∷ r) more d (fraction r h))
plain_most t m (spellings.Spells.exponent s e d h) more = inr (real_class_most s e more d (exponent e h))
plain_most t m (spellings.Spells.fraction_exponent s r e d h k) more =
    inr (subst (λ x. Most x meaning.real more) (sym (append_assoc s (46 ∷ r) e)) (real_class_most s (46 ∷ r ++ e) more d (both r e h k)))
plain_most t m (spellings.Spells.text s codes p l) more = inl (string s codes p l)
plain_most t m (spellings.Spells.character s n p l) more = inl (character s n p l)
