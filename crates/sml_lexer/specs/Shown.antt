-- The tokens of the program stand for the tokens of the definition.
use Rattle.std.specs.Prelude.{◌≡◌, ℕ, ◌==◌, List, [], ◌∷◌, ◌++◌, length, slice_get, Option, Some, None, option_map, if◌then◌else◌}
use Rattle.sml_lexer.specs.declared.token.Token.{Token}
use Rattle.sml_lexer.specs.declared.token.TokenKind.{TokenKind}
use Rattle.sml_lexer.specs.declared.token.TokenKind.TheVariants.{Word, Id, Symbol, Long, TyVar, Int, WordLit, Real, Char, Text}
use Rattle.sml_lexer.specs.Meanings.{Meaning}
use Rattle.sml_lexer.specs.Meanings as meaning
use Rattle.sml_lexer.specs.Numbers.{is_numeral}
use Rattle.sml_lexer.specs.Places.{place_behind}
use Rattle.sml_lexer.specs.Tokens.{Lexeme}

-- what a kind means, with these names and texts
abbrev pub meaning_in : List (List ℕ) → List (List ℕ) → TokenKind → Option Meaning
meaning_in names texts (Word w) = Some (meaning.word w)
meaning_in names texts (Id n) = option_map (λ s. meaning.identifier s) (slice_get names n.0)
meaning_in names texts (Symbol n) = option_map (λ s. meaning.symbol s) (slice_get names n.0)
meaning_in names texts (Long n) = option_map (λ s. meaning.long s) (slice_get names n.0)
meaning_in names texts (TyVar n) = option_map (λ s. meaning.type_variable s) (slice_get names n.0)
meaning_in names texts (Int z) = Some (meaning.integer z)
meaning_in names texts (WordLit v) = if v == 0 then Some meaning.word_constant else None
meaning_in names texts Real = Some meaning.real
meaning_in names texts (Char n) = Some (meaning.character n)
meaning_in names texts (Text i) = option_map (λ s. meaning.text s) (slice_get texts i)

-- a token of the file with this number stands for a token of the definition
pub record Shows (file : ℕ) (names texts : List (List ℕ)) (t : Token) (l : Lexeme) : Type 0 where
  pub kind : meaning_in names texts t.kind ≡ Some l.meaning
  pub place : t.place ≡ place_behind file l.before
  pub at : t.at ≡ length l.before
  pub len : t.len ≡ length l.text
  pub numeral : t.numeral ≡ is_numeral l.text

-- each of these tokens stands for one of the definition's, in order
pub data ShowAll (file : ℕ) (names texts : List (List ℕ)) : List Token → List Lexeme → Type 0 where
  none : ShowAll file names texts [] []
  one : (t : Token) (l : Lexeme) (ts : List Token) (ls : List Lexeme) → Shows file names texts t l → ShowAll file names texts ts ls → ShowAll file names texts (t ∷ ts) (l ∷ ls)

-- more of the same list
abbrev pub Extends : List (List ℕ) → List (List ℕ) → Type 0
Extends old new = (more : List (List ℕ)) × (new ≡ old ++ more)
