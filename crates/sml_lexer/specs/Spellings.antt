-- The spellings of the tokens, and what each means.
use Rattle.std.specs.Prelude.{◌≡◌, ℕ, ◌≤◌, pos, neg_ℤ, true, List, [], ◌∷◌, ◌++◌}
use Rattle.std.specs.List.{list_all, AllByRecursion}
use Rattle.sml_lexer.specs.declared.reserved.Reserved.{Reserved}
use Rattle.sml_lexer.specs.Bytes.{is_letter, is_digit, is_hexadecimal, is_alphanumeric, is_sign}
use Rattle.sml_lexer.specs.Numbers.{AreSome, number_of}
use Rattle.sml_lexer.specs.Meanings.{Meaning}
use Rattle.sml_lexer.specs.Meanings as meaning
use Rattle.sml_lexer.specs.Reserved.{spelling, IsReserved}
use Rattle.sml_lexer.specs.Quoted.{AreParts, characters}

-- a letter, and then letters, digits, primes and underscores
abbrev pub IsAlphanumeric : List ℕ → Type 0
IsAlphanumeric [] = ⊥
IsAlphanumeric (c ∷ s) = (is_letter c ≡ true) × (list_all is_alphanumeric s ≡ true)

-- a prime, and then letters, digits, primes and underscores
abbrev pub IsTypeVariable : List ℕ → Type 0
IsTypeVariable [] = ⊥
IsTypeVariable (c ∷ s) = (c ≡ 39) × (list_all is_alphanumeric s ≡ true)

-- an alphanumeric identifier
pub record IsIdentifier (s : List ℕ) : Type 0 where
  pub spelled : IsAlphanumeric s
  pub free : ¬ IsReserved s

-- a symbolic identifier
pub record IsSymbol (s : List ℕ) : Type 0 where
  pub spelled : AreSome is_sign s
  pub free : ¬ IsReserved s

-- what follows a dot of a long identifier: an alphanumeric or symbolic identifier, or an alphanumeric one, a dot and so on
pub data IsAfterDot : List ℕ → Type 0 where
  identifier : (s : List ℕ) → IsIdentifier s → IsAfterDot s
  symbol : (s : List ℕ) → IsSymbol s → IsAfterDot s
  more : (q s : List ℕ) → IsIdentifier q → IsAfterDot s → IsAfterDot (q ++ 46 ∷ s)

-- one or more alphanumeric identifiers, each followed by a dot, and then an alphanumeric or symbolic identifier
pub data IsLong : List ℕ → Type 0 where
  long : (q s : List ℕ) → IsIdentifier q → IsAfterDot s → IsLong (q ++ 46 ∷ s)

-- a decimal integer constant: an optional `~`, then digits
pub data IsDecimal : List ℕ → Type 0 where
  plain : (s : List ℕ) → AreSome is_digit s → IsDecimal s
  negative : (s : List ℕ) → AreSome is_digit s → IsDecimal (126 ∷ s)

-- `e` or `E` and a decimal integer constant
pub data IsExponent : List ℕ → Type 0 where
  small : (s : List ℕ) → IsDecimal s → IsExponent (101 ∷ s)
  capital : (s : List ℕ) → IsDecimal s → IsExponent (69 ∷ s)

-- `Spells s m`: s is a spelling, and it means m
pub data Spells : List ℕ → Meaning → Type 0 where
  reserved : (w : Reserved) → Spells (spelling w) (meaning.word w)
  identifier : (s : List ℕ) → IsIdentifier s → Spells s (meaning.identifier s)
  symbol : (s : List ℕ) → IsSymbol s → Spells s (meaning.symbol s)
  long : (s : List ℕ) → IsLong s → Spells s (meaning.long s)
  type_variable : (s : List ℕ) → IsTypeVariable s → Spells s (meaning.type_variable s)
  -- an integer constant: an optional `~`, then digits, or `0x` and hexadecimal digits
  decimal : (s : List ℕ) → AreSome is_digit s → Spells s (meaning.integer (pos (number_of 10 s)))
  negative_decimal : (s : List ℕ) → AreSome is_digit s → Spells (126 ∷ s) (meaning.integer (neg_ℤ (pos (number_of 10 s))))
  hexadecimal : (s : List ℕ) → AreSome is_hexadecimal s → Spells (48 ∷ 120 ∷ s) (meaning.integer (pos (number_of 16 s)))
  negative_hexadecimal : (s : List ℕ) → AreSome is_hexadecimal s → Spells (126 ∷ 48 ∷ 120 ∷ s) (meaning.integer (neg_ℤ (pos (number_of 16 s))))
  -- a word constant: `0w` and digits, or `0wx` and hexadecimal digits
  decimal_word : (s : List ℕ) → AreSome is_digit s → Spells (48 ∷ 119 ∷ s) meaning.word_constant
  hexadecimal_word : (s : List ℕ) → AreSome is_hexadecimal s → Spells (48 ∷ 119 ∷ 120 ∷ s) meaning.word_constant
  -- a real constant: a decimal integer constant, then a dot and digits, or an exponent, or both
  fraction : (s t : List ℕ) → IsDecimal s → AreSome is_digit t → Spells (s ++ 46 ∷ t) meaning.real
  exponent : (s e : List ℕ) → IsDecimal s → IsExponent e → Spells (s ++ e) meaning.real
  fraction_exponent : (s t e : List ℕ) → IsDecimal s → AreSome is_digit t → IsExponent e → Spells (s ++ 46 ∷ t ++ e) meaning.real
  -- a string constant: characters between quotes
  text : (s codes : List ℕ) → AreParts s (characters codes) → AllByRecursion (λ n. n ≤ 255) codes → Spells (34 ∷ s ++ 34 ∷ []) (meaning.text codes)
  -- a character constant: `#` and one character between quotes
  character : (s : List ℕ) (n : ℕ) → AreParts s (characters (n ∷ [])) → n ≤ 255 → Spells (35 ∷ 34 ∷ s ++ 34 ∷ []) (meaning.character n)
