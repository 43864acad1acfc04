-- The tokens of a file, and where they fail.
use Rattle.std.specs.Prelude.{◌≡◌, ◌≢◌, ℕ, ◌≤◌, ◌<◌, ℤ, true, List, [], ◌∷◌, ◌++◌, length, ◌⊎◌}
use Rattle.sml_lexer.specs.declared.step.Trouble.{Trouble}
use Rattle.sml_lexer.specs.declared.step.Trouble.TheVariants.{BadToken, Unclosed, LiteralRange}
use Rattle.sml_lexer.specs.Bytes.{is_control}
use Rattle.sml_lexer.specs.Gaps.{IsGap, IsComment}
use Rattle.sml_lexer.specs.Meanings.{Meaning, IsInRange}
use Rattle.sml_lexer.specs.Meanings as meaning
use Rattle.sml_lexer.specs.Quoted.{Part, AreParts, IsOpen, IsUnknown, character_count, has_wide}
use Rattle.sml_lexer.specs.Spellings.{Spells}

-- no longer spelling stands where `text` stands with `rest` behind it
abbrev pub IsLongest : List ℕ → List ℕ → Type 0
IsLongest text rest = (longer more : List ℕ) (m : Meaning) → Spells longer m → longer ++ more ≡ text ++ rest → length longer ≤ length text

-- `(` before `*` opens a comment, and `#` before `"` a character constant: neither is a token
pub data OpensMore : List ℕ → List ℕ → Type 0 where
  comment : (s : List ℕ) → OpensMore (40 ∷ []) (42 ∷ s)
  constant : (s : List ℕ) → OpensMore (35 ∷ []) (34 ∷ s)

-- `text` with `rest` behind it is the longest spelling at its place
pub record StandsAs (text rest : List ℕ) (m : Meaning) : Type 0 where
  pub spelled : Spells text m
  pub longest : IsLongest text rest
  pub whole : ¬ OpensMore text rest

-- an integer constant lies in its range
abbrev pub IsAllowed : Meaning → Type 0
IsAllowed (meaning.integer z) = IsInRange z
IsAllowed (meaning.word w) = Unit {0}
IsAllowed (meaning.identifier s) = Unit {0}
IsAllowed (meaning.symbol s) = Unit {0}
IsAllowed (meaning.long s) = Unit {0}
IsAllowed (meaning.type_variable s) = Unit {0}
IsAllowed meaning.word_constant = Unit {0}
IsAllowed meaning.real = Unit {0}
IsAllowed (meaning.character n) = Unit {0}
IsAllowed (meaning.text codes) = Unit {0}

-- a token: the bytes of the file before it, its spelling and its meaning
pub record Lexeme : Type 0 where
  pub before : List ℕ
  pub text : List ℕ
  pub meaning : Meaning

-- Behind gaps and tokens, joined in order, P holds of the bytes so far and of those still to come.
pub data Behind (P : List ℕ → List ℕ → Type 0) : List ℕ → List ℕ → List Lexeme → Type 0 where
  here : (before after : List ℕ) → P before after → Behind P before after []
  gap : (before s rest : List ℕ) (ts : List Lexeme) → IsGap s → Behind P (before ++ s) rest ts → Behind P before (s ++ rest) ts
  token : (before s rest : List ℕ) (m : Meaning) (ts : List Lexeme) → StandsAs s rest m → IsAllowed m → Behind P (before ++ s) rest ts
      → Behind P before (s ++ rest) (record { before = before; text = s; meaning = m } ∷ ts)

-- The tokens of a file.
abbrev pub AreTokens : List ℕ → List Lexeme → Type 0
AreTokens file ts = Behind (λ before after. after ≡ []) [] file ts

-- what opens a constant in quotes
pub data Opening : List ℕ → Type 0 where
  string : Opening (34 ∷ [])
  character : Opening (35 ∷ 34 ∷ [])

-- `FailsAt after k why`: where `after` stands a token fails, and the fault lies behind the bytes k of it.
pub data FailsAt : List ℕ → List ℕ → Trouble → Type 0 where
  -- a byte begins no gap and no token, and opens no constant
  stranger : (c : ℕ) (s : List ℕ) → ((t more : List ℕ) → IsGap t → t ++ more ≡ c ∷ s → ⊥) → ((t more : List ℕ) (m : Meaning) → Spells t m → t ++ more ≡ c ∷ s → ⊥) → c ≢ 34
      → FailsAt (c ∷ s) [] BadToken
  -- a comment that nothing closes
  open_comment : (s : List ℕ) → ((t more : List ℕ) → IsComment t → t ++ more ≡ s → ⊥) → FailsAt (40 ∷ 42 ∷ s) [] Unclosed
  -- an integer constant out of its range
  wide_integer : (s rest : List ℕ) (z : ℤ) → StandsAs s rest (meaning.integer z) → ¬ IsInRange z → FailsAt (s ++ rest) [] LiteralRange
  -- a control byte in a constant
  control : (o s : List ℕ) (c : ℕ) (rest : List ℕ) (ps : List Part) → Opening o → AreParts s ps → is_control c ≡ true → c ≢ 10 → FailsAt (o ++ s ++ c ∷ rest) (o ++ s) BadToken
  -- an unknown escape in a constant
  unknown : (o s rest : List ℕ) (ps : List Part) → Opening o → AreParts s ps → IsUnknown rest → FailsAt (o ++ s ++ rest) [] BadToken
  -- a closed character constant that has not one character
  count : (s rest : List ℕ) (ps : List Part) → AreParts s ps → character_count ps ≢ 1 → FailsAt (35 ∷ 34 ∷ s ++ 34 ∷ rest) [] BadToken
  -- a constant that nothing closes
  open_constant : (o s rest : List ℕ) (ps : List Part) → Opening o → AreParts s ps → IsOpen rest → FailsAt (o ++ s ++ rest) [] Unclosed
  -- an escape out of its range
  wide_escape : (o s rest : List ℕ) (ps : List Part) → Opening o → AreParts s ps → has_wide ps ≡ true → FailsAt (o ++ s ++ rest) [] LiteralRange

-- A fault of a file lies behind the bytes `at` of it.
pub record Fault : Type 0 where
  pub at : List ℕ
  pub why : Trouble

-- The faults of a file: a token fails behind gaps and tokens.
pub data Fails (file : List ℕ) : Fault → Type 0 where
  fails : (at : List ℕ) (why : Trouble) (ts : List Lexeme) → Behind (λ before after. (k : List ℕ) × (at ≡ before ++ k) × FailsAt after k why) [] file ts → Fails file (record { at = at; why = why })

-- the number of its refusal
abbrev pub number_of : Trouble → ℕ
number_of BadToken = 1
number_of Unclosed = 2
number_of LiteralRange = 3

-- one fault comes before another: at an earlier place, or with a number that isn't greater at the same place
abbrev pub Precedes : Fault → Fault → Type 0
Precedes f g = (length f.at < length g.at) ⊎ ((length f.at ≡ length g.at) × (number_of f.why ≤ number_of g.why))

-- the fault of a file with which it is refused: the first, and of several at one place the one with the least number
pub record IsFirstFault (file : List ℕ) (f : Fault) : Type 0 where
  pub fails : Fails file f
  pub first : (g : Fault) → Fails file g → Precedes f g
