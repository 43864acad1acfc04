-- What lexing a program answers.
use Rattle.std.specs.Prelude.{◌≡◌, ℕ, List, length}
use Rattle.smlc_base.specs.declared.refusal.CompileError.{CompileError}
use Rattle.smlc_base.specs.declared.refusal.CompileError.TheVariants as error
use Rattle.smlc_base.specs.declared.refusal.Refusal.{Refusal}
use Rattle.sml_lexer.specs.declared.lexed.Lexed.{Lexed}
use Rattle.sml_lexer.specs.Files.{AreFiles, AreCut, end_of, IsRefusal}
use Rattle.sml_lexer.specs.Shown.{Extends}
use Rattle.sml_lexer.specs.Stored.{names_of, texts_of, AreCounted}
use Rattle.sml_lexer.specs.Tokens.{Lexeme}

-- The tokens of the files, which are numbered from `first`, with these names and texts before those of their own; and then nothing is refused.
-- The names are those that tokens cite, in the order in which they first come, and the texts the string constants in order, each with a number of its own.
pub record IsLexed (names texts : List (List ℕ)) (first : ℕ) (files : List (List ℕ)) (lexed : Lexed) : Type 0 where
  pub tokens : AreFiles lexed.names lexed.texts first files lexed.tokens
  pub lexemes : List Lexeme
  pub cut : AreCut files lexemes
  pub names_are : lexed.names ≡ names_of names lexemes
  pub texts_are : lexed.texts ≡ texts_of texts lexemes
  pub counted : AreCounted (length texts) lexed.tokens (length lexed.texts)
  pub end : lexed.end ≡ end_of (record { file = 0; line = 1; col = 1 }) first files
  pub more_names : Extends names lexed.names
  pub more_texts : Extends texts lexed.texts
  pub accepted : (r : Refusal) → IsRefusal first files r → ⊥

-- two answers are the same
pub record AreAlike (a b : Lexed) : Type 0 where
  pub tokens : a.tokens ≡ b.tokens
  pub names : a.names ≡ b.names
  pub texts : a.texts ≡ b.texts
  pub end : a.end ≡ b.end

-- want of memory, or a refusal of the files
abbrev pub IsRefused : ℕ → List (List ℕ) → CompileError → Type 0
IsRefused first files error.NoMemory = Unit {0}
IsRefused first files (error.Refused r) = IsRefusal first files r
