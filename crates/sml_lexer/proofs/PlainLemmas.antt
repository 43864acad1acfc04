-- The scan finds exactly the longest spelling, of every token but the constants in quotes.
use Rattle.std.proofs.Common.{◌≡◌, ◌≢◌, ℕ, true, false, ◌&&◌, eqb, List, [], ◌∷◌, ◌++◌, Some, length, get_or, pos, neg_ℤ, refl, sym, ap, ◌∙◌, subst, arith}
use Rattle.std.proofs.lemmas.List.{append_assoc}
use Rattle.std.proofs.lemmas.Bool.{and_parts, and_from, and_right, cond-true, cond-false, eq-eqb, ne_eqb, le-leb}
use Rattle.sml_lexer.specs.declared.plain.Class.{Class}
use Rattle.sml_lexer.specs.Bytes.{is_letter, is_digit, is_sign}
use Rattle.sml_lexer.specs.Classified.{meaning_of}
use Rattle.sml_lexer.specs.IntegerScan.{magnitude_of, integer_of}
use Rattle.sml_lexer.specs.Meanings.{Meaning}
use Rattle.sml_lexer.specs.Meanings as meaning
use Rattle.sml_lexer.specs.Numbers.{AreSome, number_of}
use Rattle.sml_lexer.specs.Spellings.{Spells, IsDecimal, IsExponent, IsSymbol}
use Rattle.sml_lexer.specs.Spellings as spellings
use Rattle.sml_lexer.specs.PlainScan.{word_at, sign_at, unsigned_at, negative_at, point_at, plain_at}
use Rattle.sml_lexer.proofs.ByteLemmas.{digit_range, digit_not_letter, sign_not_letter, sign_not_digit}
use Rattle.sml_lexer.proofs.FoundLemmas.{variable_at}
use Rattle.sml_lexer.proofs.NumberLemmas.{RealTail, fraction, exponent, both}
use Rattle.sml_lexer.proofs.UnsignedLemmas.{IsUnsigned, hexadecimal, hexadecimal_word, word, real, digits}

-- the values of integer constants
digit_second : (t : List ℕ) → AreSome is_digit t → get_or t 1 0 ≢ 120
digit_second [] h = absurd h
digit_second (a ∷ []) h = omega arith
digit_second (a ∷ b ∷ t) h = let d = digit_range b (and_parts _ _ (and_parts _ _ h).1).0 in let ne : b ≢ 120 = omega arith in ne

pub digit_head : (t : List ℕ) → AreSome is_digit t → is_digit (get_or t 0 0) ≡ true
digit_head [] h = absurd h
digit_head (c ∷ t) h = (and_parts _ _ h).0

pub magnitude_decimal : (t : List ℕ) → AreSome is_digit t → magnitude_of t ≡ number_of 10 t
unfolding magnitude_of
magnitude_decimal t h = cond-false _ _ _ (and_right _ _ (ne_eqb _ _ (digit_second t h)))

pub magnitude_hexadecimal : (t : List ℕ) → magnitude_of (48 ∷ 120 ∷ t) ≡ number_of 16 t
unfolding magnitude_of
magnitude_hexadecimal t = cond-true _ _ _ (and_from _ _ (and_from _ _ (le-leb 2 (length (48 ∷ 120 ∷ t)) (omega arith)) refl) refl)

integer_plain : (t : List ℕ) → get_or t 0 0 ≢ 126 → integer_of t ≡ pos (magnitude_of t)
unfolding integer_of
integer_plain t h = cond-false _ _ _ (and_right _ _ (ne_eqb _ _ h))

pub integer_negative : (t : List ℕ) → integer_of (126 ∷ t) ≡ neg_ℤ (pos (magnitude_of t))
unfolding integer_of
integer_negative t = cond-true _ _ _ (and_from _ _ (le-leb 1 (length (126 ∷ t)) (omega arith)) refl)

digits_plain : (t : List ℕ) → AreSome is_digit t → get_or t 0 0 ≢ 126
digits_plain t h = let d = digit_range _ (digit_head t h) in let ne : get_or t 0 0 ≢ 126 = omega arith in ne

pub integer_decimal : (t : List ℕ) → AreSome is_digit t → integer_of t ≡ pos (number_of 10 t)
integer_decimal t h = integer_plain t (digits_plain t h) ∙ ap (λ n. pos n) (magnitude_decimal t h)

pub integer_hexadecimal : (t : List ℕ) → integer_of (48 ∷ 120 ∷ t) ≡ pos (number_of 16 t)
integer_hexadecimal t = integer_plain (48 ∷ 120 ∷ t) (omega arith) ∙ ap (λ n. pos n) (magnitude_hexadecimal t)

-- a constant without `~` is a spelling, and with `~` too unless it is a word constant
real_spells : (d t : List ℕ) → IsDecimal d → RealTail t → Spells (d ++ t) meaning.real
real_spells d t h (fraction s k) = spellings.Spells.fraction d s h k
real_spells d t h (exponent e k) = spellings.Spells.exponent d t h k
real_spells d t h (both s e k l) = subst (λ x. Spells x meaning.real) (append_assoc d (46 ∷ s) e) (spellings.Spells.fraction_exponent d s e h k l)

pub unsigned_spells : (t : List ℕ) (c : Class) → IsUnsigned false t c → Spells t (meaning_of c t)
unsigned_spells t c (hexadecimal n s h) = subst (λ z. Spells t (meaning.integer z)) (sym (integer_hexadecimal s)) (spellings.Spells.hexadecimal s h)
unsigned_spells t c (hexadecimal_word s h) = spellings.Spells.hexadecimal_word s h
unsigned_spells t c (word s h) = spellings.Spells.decimal_word s h
unsigned_spells t c (real n s r h q) = real_spells s r (spellings.IsDecimal.plain s h) q
unsigned_spells t c (digits n s h) = subst (λ z. Spells t (meaning.integer z)) (sym (integer_decimal t h)) (spellings.Spells.decimal t h)

pub negative_spells : (t : List ℕ) (c : Class) → IsUnsigned true t c → Spells (126 ∷ t) (meaning_of c (126 ∷ t))
negative_spells t c (hexadecimal n s h) = subst (λ z. Spells (126 ∷ t) (meaning.integer z)) (sym (integer_negative t ∙ ap (λ n. neg_ℤ (pos n)) (magnitude_hexadecimal s))) (spellings.Spells.negative_hexadecimal s h)
negative_spells t c (real n s r h q) = real_spells (126 ∷ s) r (spellings.IsDecimal.negative s h) q
negative_spells t c (digits n s h) = subst (λ z. Spells (126 ∷ t) (meaning.integer z)) (sym (integer_negative t ∙ ap (λ n. neg_ℤ (pos n)) (magnitude_decimal t h))) (spellings.Spells.negative_decimal t h)

-- where the scan goes by the first byte
pub at_letter : (s : List ℕ) → is_letter (get_or s 0 0) ≡ true → plain_at s ≡ Some (word_at s)
unfolding plain_at
at_letter s h = cond-true _ _ _ h

pub at_digit : (s : List ℕ) → is_digit (get_or s 0 0) ≡ true → plain_at s ≡ Some (unsigned_at false s)
unfolding plain_at
at_digit s h = cond-false _ _ _ (digit_not_letter _ h) ∙ cond-true _ _ _ h

prime_classes : (is_letter 39 ≡ false) × (is_digit 39 ≡ false)
unfolding is_letter is_digit
prime_classes = (refl, refl)

tilde_classes : (is_letter 126 ≡ false) × (is_digit 126 ≡ false)
unfolding is_letter is_digit
tilde_classes = (refl, refl)

pub at_prime : (s : List ℕ) → get_or s 0 0 ≡ 39 → plain_at s ≡ Some (variable_at s)
unfolding plain_at
at_prime s h = cond-false _ _ _ (ap is_letter h ∙ prime_classes.0) ∙ cond-false _ _ _ (ap is_digit h ∙ prime_classes.1) ∙ cond-true _ _ _ (eq-eqb _ _ h)

pub at_tilde : (s : List ℕ) → get_or s 0 0 ≡ 126 → is_digit (get_or s 1 0) ≡ true → plain_at s ≡ Some (negative_at s)
unfolding plain_at
at_tilde s h d =
    let ne : get_or s 0 0 ≢ 39 = omega arith in
    cond-false _ _ _ (ap is_letter h ∙ tilde_classes.0) ∙ cond-false _ _ _ (ap is_digit h ∙ tilde_classes.1) ∙ cond-false _ _ _ (ne_eqb _ _ ne) ∙ cond-true _ _ _ (and_from _ _ (eq-eqb _ _ h) d)

sign_not_prime : (c : ℕ) → is_sign c ≡ true → c ≢ 39
unfolding is_sign
sign_not_prime c h e = let k : is_sign 39 ≡ true = ap is_sign (sym e) ∙ h in cc

pub at_sign : (s : List ℕ) → is_sign (get_or s 0 0) ≡ true → (eqb (get_or s 0 0) 126 && is_digit (get_or s 1 0)) ≡ false → plain_at s ≡ Some (sign_at s)
unfolding plain_at
at_sign s h n = cond-false _ _ _ (sign_not_letter _ h) ∙ cond-false _ _ _ (sign_not_digit _ h) ∙ cond-false _ _ _ (ne_eqb _ _ (sign_not_prime _ h)) ∙ cond-false _ _ _ n ∙ cond-true _ _ _ h

pub at_point : (s : List ℕ) → is_letter (get_or s 0 0) ≡ false → is_digit (get_or s 0 0) ≡ false → get_or s 0 0 ≢ 39 → (eqb (get_or s 0 0) 126 && is_digit (get_or s 1 0)) ≡ false → is_sign (get_or s 0 0) ≡ false → plain_at s ≡ point_at s
unfolding plain_at
at_point s a b c d e = cond-false _ _ _ a ∙ cond-false _ _ _ b ∙ cond-false _ _ _ (ne_eqb _ _ c) ∙ cond-false _ _ _ d ∙ cond-false _ _ _ e
