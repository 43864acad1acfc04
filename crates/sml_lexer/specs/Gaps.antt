-- White space and comments.
use Rattle.std.specs.Prelude.{◌≡◌, ℕ, Bool, true, false, List, [], ◌∷◌, ◌++◌, ◌==◌, ◌&&◌, ◌||◌}
use Rattle.sml_lexer.specs.Bytes.{is_space}

-- `(*` or `*)` begins here
unfoldable pub is_mark : List ℕ → Bool
is_mark [] = false
is_mark (c ∷ []) = false
is_mark (c ∷ d ∷ s) = (c == 40 && d == 42) || (c == 42 && d == 41)

-- what follows the `(*` of a comment, up to and with the `*)` that closes it: bytes at which no mark begins, and whole comments
pub data IsComment : List ℕ → Type 0 where
  close : IsComment (42 ∷ 41 ∷ [])
  byte : (c : ℕ) (s : List ℕ) → is_mark (c ∷ s) ≡ false → IsComment s → IsComment (c ∷ s)
  comment : (inner s : List ℕ) → IsComment inner → IsComment s → IsComment (40 ∷ 42 ∷ inner ++ s)

-- a byte of white space, or a comment
pub data IsGap : List ℕ → Type 0 where
  space : (c : ℕ) → is_space c ≡ true → IsGap (c ∷ [])
  comment : (s : List ℕ) → IsComment s → IsGap (40 ∷ 42 ∷ s)
