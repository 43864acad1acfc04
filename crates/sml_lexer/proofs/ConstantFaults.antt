-- The faults of a constant in quotes that was read to its end.
use Rattle.std.proofs.Common.{◌≡◌, ◌≢◌, ℕ, true, false, List, [], ◌∷◌, ◌++◌, get_or, ℤ, refl, sym, ap, ◌∙◌, subst, arith, ◌⊎◌, inl, inr}
use Rattle.std.proofs.lemmas.List.{append_assoc}
use Rattle.std.proofs.lemmas.Bool.{or_left}
use Rattle.sml_lexer.specs.declared.quoted.Ending.{Ending}
use Rattle.sml_lexer.specs.declared.quoted.Ending.TheVariants as ending
use Rattle.sml_lexer.specs.declared.reserved.Reserved.TheVariants.{KwHash}
use Rattle.sml_lexer.specs.declared.step.Trouble.{Trouble}
use Rattle.sml_lexer.specs.declared.step.Trouble.TheVariants.{BadToken, Unclosed, LiteralRange}
use Rattle.sml_lexer.specs.Bytes.{is_control, is_digit}
use Rattle.sml_lexer.specs.Meanings.{Meaning}
use Rattle.sml_lexer.specs.Meanings as meaning
use Rattle.sml_lexer.specs.Quoted.{Part, AreParts, has_wide, character_count}
use Rattle.sml_lexer.specs.Spellings.{Spells}
use Rattle.sml_lexer.specs.Spellings as spellings
use Rattle.sml_lexer.specs.Tokens.{Opening, FailsAt, StandsAs}
use Rattle.sml_lexer.specs.Tokens as tokens
use Rattle.sml_lexer.proofs.StageLemmas.{IsWhole, front, one_end}
use Rattle.sml_lexer.proofs.QuotedReadLemmas.{wide-append}
use Rattle.sml_lexer.proofs.PlainLemmas.{digit_head}

-- the faults of a constant
pub data Faulty (o rest : List ℕ) (ps : List Part) (e : Ending) : List ℕ → Trouble → Type 0 where
  control : (t y : List ℕ) (qs : List Part) (c : ℕ) → AreParts t qs → is_control c ≡ true → c ≢ 10 → t ++ c ∷ y ≡ rest → Faulty o rest ps e (o ++ t) BadToken
  unknown : e ≡ ending.Unknown → Faulty o rest ps e [] BadToken
  count : o ≡ 35 ∷ 34 ∷ [] → e ≡ ending.Closed → character_count ps ≢ 1 → Faulty o rest ps e [] BadToken
  unclosed : e ≡ ending.Open → Faulty o rest ps e [] Unclosed
  wide : has_wide ps ≡ true → Faulty o rest ps e [] LiteralRange

-- an integer constant begins with a digit or `~`
pub integer_first : (s : List ℕ) (m : Meaning) (z : ℤ) → Spells s m → m ≡ meaning.integer z → (is_digit (get_or s 0 0) ≡ true) ⊎ (get_or s 0 0 ≡ 126)
unfolding is_digit
integer_first s m z (spellings.Spells.decimal t h) e = inl (digit_head s h)
integer_first s m z (spellings.Spells.negative_decimal t h) e = inr refl
integer_first s m z (spellings.Spells.hexadecimal t h) e = inl refl
integer_first s m z (spellings.Spells.negative_hexadecimal t h) e = inr refl
integer_first s m z (spellings.Spells.reserved w) e = cc
integer_first s m z (spellings.Spells.identifier t h) e = cc
integer_first s m z (spellings.Spells.symbol t h) e = cc
integer_first s m z (spellings.Spells.long t h) e = cc
integer_first s m z (spellings.Spells.type_variable t h) e = cc
integer_first s m z (spellings.Spells.decimal_word t h) e = cc
integer_first s m z (spellings.Spells.hexadecimal_word t h) e = cc
integer_first s m z (spellings.Spells.fraction t u h k) e = cc
integer_first s m z (spellings.Spells.exponent t u h k) e = cc
integer_first s m z (spellings.Spells.fraction_exponent t u v h k l) e = cc
integer_first s m z (spellings.Spells.text t codes h k) e = cc
integer_first s m z (spellings.Spells.character t n h k) e = cc

first_byte : (s rest : List ℕ) → s ≢ [] → get_or (s ++ rest) 0 0 ≡ get_or s 0 0
first_byte [] rest h = absurd (h refl)
first_byte (c ∷ s) rest h = refl

digit_zero : is_digit 0 ≡ false
unfolding is_digit
digit_zero = refl

pub not_integer : (s rest a : List ℕ) (z : ℤ) → Spells s (meaning.integer z) → s ++ rest ≡ a → is_digit (get_or a 0 0) ≡ false → get_or a 0 0 ≢ 126 → ⊥
not_integer [] rest a z h e d t = go 0 refl (integer_first [] _ z h refl)
  where
    go : (n : ℕ) → n ≡ 0 → (is_digit n ≡ true) ⊎ (n ≡ 126) → ⊥
    go n q (inl k) = let r : true ≡ false = sym k ∙ ap is_digit q ∙ digit_zero in cc
    go n q (inr k) = omega arith
not_integer (c ∷ s) rest a z h e d t = go (integer_first (c ∷ s) _ z h refl)
  where
    same : c ≡ get_or a 0 0
    same = ap (λ x. get_or x 0 0) e

    go : (is_digit c ≡ true) ⊎ (c ≡ 126) → ⊥
    go (inl k) = let x : true ≡ false = sym k ∙ ap is_digit same ∙ d in cc
    go (inr k) = t (sym same ∙ k)

-- which opening it is
opening_same : (o p x y : List ℕ) → Opening o → Opening p → o ++ x ≡ p ++ y → (o ≡ p) × (x ≡ y)
opening_same o p x y tokens.Opening.string tokens.Opening.string e = (refl, cc)
opening_same o p x y tokens.Opening.string tokens.Opening.character e = absurd (let h = ap (λ (k : List ℕ). get_or k 0 0) e in omega (arith, h))
opening_same o p x y tokens.Opening.character tokens.Opening.string e = absurd (let h = ap (λ (k : List ℕ). get_or k 0 0) e in omega (arith, h))
opening_same o p x y tokens.Opening.character tokens.Opening.character e = (refl, cc)

no_digit_quote : (is_digit 34 ≡ false) × (is_digit 35 ≡ false)
unfolding is_digit
no_digit_quote = (refl, refl)

module _ (o rest s : List ℕ) (ps : List Part) (e : Ending) (more : List ℕ) (w : IsWhole rest s ps e more) (opening : Opening o) where
  -- a front that was read, in the file's bytes
  inner : (p t y : List ℕ) → Opening p → p ++ t ++ y ≡ o ++ rest → (p ≡ o) × (t ++ y ≡ rest)
  inner p t y h q = let (a, b) = opening_same p o (t ++ y) rest h opening (sym (append_assoc p t y) ∙ q) in (a, b)

  pub faulty : (a k : List ℕ) (why : Trouble) → FailsAt a k why → a ≡ o ++ rest → Faulty o rest ps e k why
  faulty a k why (tokens.FailsAt.stranger c t g n q) h = absurd (go o opening h)
    where
      go : (o : List ℕ) → Opening o → c ∷ t ≡ o ++ rest → ⊥
      go o tokens.Opening.string h = q cc
      go o tokens.Opening.character h = n (35 ∷ []) (34 ∷ rest) _ (spellings.Spells.reserved KwHash) (sym h)
  faulty a k why (tokens.FailsAt.open_comment t n) h = absurd (go o opening h)
    where
      go : (o : List ℕ) → Opening o → 40 ∷ 42 ∷ t ≡ o ++ rest → ⊥
      go o tokens.Opening.string h = let x = ap (λ (k : List ℕ). get_or k 0 0) h in omega (arith, x)
      go o tokens.Opening.character h = let x = ap (λ (k : List ℕ). get_or k 0 0) h in omega (arith, x)
  faulty a k why (tokens.FailsAt.wide_integer t r z st n) h = absurd (go o opening h)
    where
      go : (o : List ℕ) → Opening o → t ++ r ≡ o ++ rest → ⊥
      go o tokens.Opening.string h = not_integer t r _ z st.spelled h no_digit_quote.0 (omega arith)
      go o tokens.Opening.character h = not_integer t r _ z st.spelled h no_digit_quote.1 (omega arith)
  faulty a k why (tokens.FailsAt.control p t c y qs op b l n) h =
      let (same, is) = inner p t (c ∷ y) op h in
      subst (λ x. Faulty o rest ps e (x ++ t) BadToken) (sym same) (control t y qs c b l n is)
  faulty a k why (tokens.FailsAt.unknown p t y qs op b l) h =
      let (same, is) = inner p t y op h in
      unknown (sym (one_end rest s ps e more w t qs b y is ending.Unknown l).0)
  faulty a k why (tokens.FailsAt.count t y qs b n) h =
      let (same, is) = inner (35 ∷ 34 ∷ []) t (34 ∷ y) tokens.Opening.character h in
      let u = one_end rest s ps e more w t qs b (34 ∷ y) is ending.Closed (y, refl) in
      count (sym same) (sym u.0) (λ z. n (ap character_count u.2 ∙ z))
  faulty a k why (tokens.FailsAt.open_constant p t y qs op b l) h =
      let (same, is) = inner p t y op h in
      unclosed (sym (one_end rest s ps e more w t qs b y is ending.Open l).0)
  faulty a k why (tokens.FailsAt.wide_escape p t y qs op b l) h =
      let (same, is) = inner p t y op h in
      let (r, rs, c, f, g, q) = front rest s ps e more w t qs b y is in
      wide (ap has_wide g ∙ wide-append qs rs ∙ or_left _ _ l)
