-- What tokens put behind the names and texts that stand, and which number a string constant has.
use Rattle.std.specs.Prelude.{◌≡◌, ℕ, suc, List, [], ◌∷◌, ◌++◌}
use Rattle.smlc_base.specs.Texts.{with_text}
use Rattle.sml_lexer.specs.declared.token.Token.{Token}
use Rattle.sml_lexer.specs.declared.token.TokenKind.{TokenKind}
use Rattle.sml_lexer.specs.declared.token.TokenKind.TheVariants.{Word, Id, Symbol, Long, TyVar, Int, WordLit, Real, Char, Text}
use Rattle.sml_lexer.specs.Meanings.{Meaning}
use Rattle.sml_lexer.specs.Meanings as meaning
use Rattle.sml_lexer.specs.Tokens.{Lexeme}

-- the names, with the spelling that a token cites put last, unless it stands among them
abbrev pub names_with : List (List ℕ) → Meaning → List (List ℕ)
names_with names (meaning.identifier s) = with_text names s
names_with names (meaning.symbol s) = with_text names s
names_with names (meaning.long s) = with_text names s
names_with names (meaning.type_variable s) = with_text names s
names_with names (meaning.word w) = names
names_with names (meaning.integer z) = names
names_with names meaning.word_constant = names
names_with names meaning.real = names
names_with names (meaning.character n) = names
names_with names (meaning.text codes) = names

-- the texts, with a string constant put last
abbrev pub texts_with : List (List ℕ) → Meaning → List (List ℕ)
texts_with texts (meaning.text codes) = texts ++ codes ∷ []
texts_with texts (meaning.identifier s) = texts
texts_with texts (meaning.symbol s) = texts
texts_with texts (meaning.long s) = texts
texts_with texts (meaning.type_variable s) = texts
texts_with texts (meaning.word w) = texts
texts_with texts (meaning.integer z) = texts
texts_with texts meaning.word_constant = texts
texts_with texts meaning.real = texts
texts_with texts (meaning.character n) = texts

-- the names and the texts behind tokens
abbrev pub names_of : List (List ℕ) → List Lexeme → List (List ℕ)
names_of names [] = names
names_of names (l ∷ ls) = names_of (names_with names l.meaning) ls

abbrev pub texts_of : List (List ℕ) → List Lexeme → List (List ℕ)
texts_of texts [] = texts
texts_of texts (l ∷ ls) = texts_of (texts_with texts l.meaning) ls

-- n is the next number of a string constant before a token, and m the next behind it
abbrev pub IsNext : ℕ → TokenKind → ℕ → Type 0
IsNext n (Text i) m = (i ≡ n) × (m ≡ suc n)
IsNext n (Word w) m = m ≡ n
IsNext n (Id x) m = m ≡ n
IsNext n (Symbol x) m = m ≡ n
IsNext n (Long x) m = m ≡ n
IsNext n (TyVar x) m = m ≡ n
IsNext n (Int z) m = m ≡ n
IsNext n (WordLit v) m = m ≡ n
IsNext n Real m = m ≡ n
IsNext n (Char c) m = m ≡ n

-- string constants have the numbers from n on in order, and m is the next behind them
abbrev pub AreCounted : ℕ → List Token → ℕ → Type 0
AreCounted n [] m = m ≡ n
AreCounted n (t ∷ ts) m = (k : ℕ) × IsNext n t.kind k × AreCounted k ts m
