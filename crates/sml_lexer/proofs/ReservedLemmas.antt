-- The reserved words by their spellings.
use Rattle.std.proofs.Common.{◌≡◌, ◌≢◌, ℕ, true, false, List, [], ◌∷◌, Option, Some, None, refl, sym, ap, ◌∙◌, arith, ◌⊎◌, inl, inr}
use Rattle.std.specs.Prelude.{bytes_eq}
use Rattle.std.proofs.lemmas.Slice.Eq.{bytes_eq-Decides}
use Rattle.std.proofs.lemmas.Bool.{cases_Bool, cond-true, cond-false}
use Rattle.sml_lexer.specs.declared.reserved.Reserved.{Reserved}
use Rattle.sml_lexer.specs.declared.reserved.Reserved.TheVariants as words
use Rattle.sml_lexer.specs.Bytes.{is_letter, is_alphanumeric, is_sign, is_digit}
use Rattle.sml_lexer.specs.Numbers.{AreSome}
use Rattle.sml_lexer.specs.Spellings.{IsAlphanumeric}
use Rattle.sml_lexer.specs.Reserved.{spelling, IsReserved, reserved_words, first_spelled, reserved_of}

first_found : (words : List Reserved) (text : List ℕ) (w : Reserved) → first_spelled words text ≡ Some w → spelling w ≡ text
first_found [] text w e = cc
first_found (x ∷ words) text w e = step words text x w e (λ k. first_found words text w k) (cases_Bool (bytes_eq (spelling x) text))
  where
    step : (words : List Reserved) (text : List ℕ) (x w : Reserved) → first_spelled (x ∷ words) text ≡ Some w → (first_spelled words text ≡ Some w → spelling w ≡ text) → (bytes_eq (spelling x) text ≡ true) ⊎ (bytes_eq (spelling x) text ≡ false) → spelling w ≡ text
    step words text x w e ih (inl h) =
        let k : Some x ≡ Some w = sym (cond-true _ _ _ h) ∙ e in
        let same : x ≡ w = cc in
        ap spelling (sym same) ∙ (bytes_eq-Decides (spelling x) text).0 h
    step words text x w e ih (inr h) = ih (sym (cond-false _ _ _ h) ∙ e)

pub reserved_found : (text : List ℕ) (w : Reserved) → reserved_of text ≡ Some w → spelling w ≡ text
unfolding reserved_of
reserved_found text w e = first_found reserved_words text w e

pub reserved_is : (w : Reserved) → reserved_of (spelling w) ≡ Some w
unfolding reserved_of
reserved_is words.KwAbstype = refl
reserved_is _ = refl

pub free_from_none : (text : List ℕ) → reserved_of text ≡ None → ¬ IsReserved text
free_from_none text h r = let k : reserved_of text ≡ Some r.0 = ap reserved_of (sym r.1) ∙ reserved_is r.0 in cc

pub none_from_free : (text : List ℕ) → ¬ IsReserved text → reserved_of text ≡ None
none_from_free text h = go (reserved_of text) refl
  where
    go : (o : Option Reserved) → reserved_of text ≡ o → reserved_of text ≡ None
    go None e = e
    go (Some w) e = absurd (h (w, reserved_found text w e))

-- reserved words of one byte that is no sign
abbrev pub is_point : ℕ → Type 0
is_point c = (is_letter c ≡ false) × (is_digit c ≡ false) × (c ≢ 39) × (c ≢ 126) × (is_sign c ≡ false) × (c ≢ 46)

-- how a reserved word is spelled
pub data Shape : List ℕ → Type 0 where
  alphabetic : (s : List ℕ) → IsAlphanumeric s → Shape s
  signs : (s : List ℕ) → AreSome is_sign s → Shape s
  point : (c : ℕ) → is_point c → Shape (c ∷ [])
  dots : Shape (46 ∷ 46 ∷ 46 ∷ [])

pub shape : (w : Reserved) → Shape (spelling w)
unfolding is_letter is_alphanumeric is_sign is_digit
shape words.KwOpenParen = point 40 (refl, refl, omega arith, omega arith, refl, omega arith)
shape words.KwCloseParen = point 41 (refl, refl, omega arith, omega arith, refl, omega arith)
shape words.KwOpenBracket = point 91 (refl, refl, omega arith, omega arith, refl, omega arith)
shape words.KwCloseBracket = point 93 (refl, refl, omega arith, omega arith, refl, omega arith)
shape words.KwOpenBrace = point 123 (refl, refl, omega arith, omega arith, refl, omega arith)
shape words.KwCloseBrace = point 125 (refl, refl, omega arith, omega arith, refl, omega arith)
shape words.KwComma = point 44 (refl, refl, omega arith, omega arith, refl, omega arith)
shape words.KwSemicolon = point 59 (refl, refl, omega arith, omega arith, refl, omega arith)
shape words.KwUnderscore = point 95 (refl, refl, omega arith, omega arith, refl, omega arith)
shape words.KwDots = dots
shape words.KwColon = signs _ refl
shape words.KwBar = signs _ refl
shape words.KwEquals = signs _ refl
shape words.KwDoubleArrow = signs _ refl
shape words.KwArrow = signs _ refl
shape words.KwHash = signs _ refl
shape words.KwSeal = signs _ refl
shape _ = alphabetic _ (refl, refl)
