-- What stands between the quotes of a string or character constant.
use Rattle.std.specs.Prelude.{◌≡◌, ◌≢◌, ℕ, ◌-◌, ◌≤◌, Bool, true, false, List, [], ◌∷◌, ◌++◌, length, map, Option, Some, None, if◌then◌else◌, ◌==◌, ◌+◌, nat_lt}
use Rattle.std.specs.List.{list_all}
use Rattle.sml_lexer.specs.Bytes.{is_digit, is_hexadecimal, is_space, is_control}
use Rattle.sml_lexer.specs.Numbers.{AreSome, number_of}

-- the escapes of one letter: `\a \b \t \n \v \f \r \" \\`, and the code that each means
unfoldable pub letter_escape : ℕ → Option ℕ
letter_escape c =
    if c == 97 then Some 7 else (if c == 98 then Some 8 else (if c == 116 then Some 9 else (if c == 110 then Some 10 else (if c == 118 then Some 11
    else (if c == 102 then Some 12 else (if c == 114 then Some 13 else (if c == 34 then Some 34 else (if c == 92 then Some 92 else None))))))))

-- `IsEscape s n`: s is an escape that means the code n, which is out of range above 255
pub data IsEscape : List ℕ → ℕ → Type 0 where
  -- `\n` and the like
  letter : (c n : ℕ) → letter_escape c ≡ Some n → IsEscape (92 ∷ c ∷ []) n
  -- `\^c`, with a code of 64 to 95 for c
  caret : (c : ℕ) → 64 ≤ c → c ≤ 95 → IsEscape (92 ∷ 94 ∷ c ∷ []) (c - 64)
  -- `\ddd`
  decimal : (s : List ℕ) → length s ≡ 3 → list_all is_digit s ≡ true → IsEscape (92 ∷ s) (number_of 10 s)
  -- `\uxxxx`
  unicode : (s : List ℕ) → length s ≡ 4 → list_all is_hexadecimal s ≡ true → IsEscape (92 ∷ 117 ∷ s) (number_of 16 s)

-- a gap: a backslash, white space, a backslash
pub data IsStringGap : List ℕ → Type 0 where
  gap : (s : List ℕ) → AreSome is_space s → IsStringGap (92 ∷ s ++ 92 ∷ [])

-- a part of a constant
pub data Part : Type 0 where
  -- a character with its code
  character : ℕ → Part
  -- a control byte, which may not stand there
  stray : Part

-- `IsPart s ps`: s is one byte, escape or gap of a constant, and ps the part that it stands for, none for a gap
pub data IsPart : List ℕ → List Part → Type 0 where
  -- a byte that is no control byte, quote or backslash stands for itself
  plain : (c : ℕ) → is_control c ≡ false → c ≢ 34 → c ≢ 92 → IsPart (c ∷ []) (character c ∷ [])
  escape : (s : List ℕ) (n : ℕ) → IsEscape s n → IsPart s (character n ∷ [])
  gap : (s : List ℕ) → IsStringGap s → IsPart s []
  control : (c : ℕ) → is_control c ≡ true → c ≢ 10 → IsPart (c ∷ []) (stray ∷ [])

-- `AreParts s ps`: s is a row of such, and ps their parts in order
pub data AreParts : List ℕ → List Part → Type 0 where
  nothing : AreParts [] []
  part : (s t : List ℕ) (ps qs : List Part) → IsPart s ps → AreParts t qs → AreParts (s ++ t) (ps ++ qs)

-- characters in range, and nothing else
abbrev pub characters : List ℕ → List Part
characters codes = map character codes

-- An escape or a gap.
pub data IsBackslashed : List ℕ → Type 0 where
  escape : (s : List ℕ) (n : ℕ) → IsEscape s n → IsBackslashed s
  gap : (s : List ℕ) → IsStringGap s → IsBackslashed s

-- A constant is still open where the file ends, also in the middle of an escape or a gap, and where a newline stands.
pub data IsOpen : List ℕ → Type 0 where
  ends : IsOpen []
  newline : (s : List ℕ) → IsOpen (10 ∷ s)
  cut : (s more : List ℕ) → more ≢ [] → IsBackslashed (92 ∷ s ++ more) → IsOpen (92 ∷ s)

-- A backslash that begins no escape and no gap, also not one that the end of the file cuts short.
pub data IsUnknown : List ℕ → Type 0 where
  unknown : (s : List ℕ) → ((t more : List ℕ) → IsBackslashed t → t ++ more ≡ 92 ∷ s → ⊥) → ((more : List ℕ) → IsBackslashed (92 ∷ s ++ more) → ⊥) → IsUnknown (92 ∷ s)

-- how many characters there are
abbrev pub character_count : List Part → ℕ
character_count [] = 0
character_count (character n ∷ ps) = 1 + character_count ps
character_count (stray ∷ ps) = character_count ps

-- some character is out of range
abbrev pub has_wide : List Part → Bool
has_wide [] = false
has_wide (character n ∷ ps) = (if nat_lt 255 n then true else has_wide ps)
has_wide (stray ∷ ps) = has_wide ps
