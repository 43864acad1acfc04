-- What reading a file adds to a draft.
use Rattle.std.specs.Prelude.{◌≡◌, ℕ, List, [], ◌∷◌, ◌++◌, length, Some}
use Rattle.smlc_base.specs.declared.place.Place.{Place}
use Rattle.smlc_base.specs.declared.refusal.CompileError.{CompileError}
use Rattle.smlc_base.specs.declared.refusal.CompileError.TheVariants as error
use Rattle.smlc_base.specs.declared.refusal.Refusal.{Refusal}
use Rattle.smlc_base.specs.declared.refusal.Refusal.TheVariants as refusal
use Rattle.sml_lexer.specs.declared.draft.Draft.{Draft}
use Rattle.sml_lexer.specs.declared.step.Kind.{Kind}
use Rattle.sml_lexer.specs.declared.step.Trouble.{Trouble}
use Rattle.sml_lexer.specs.declared.step.Trouble.TheVariants.{BadToken, Unclosed, LiteralRange}
use Rattle.sml_lexer.specs.declared.token.Token.{Token}
use Rattle.sml_lexer.specs.Numbers.{is_numeral}
use Rattle.sml_lexer.specs.Places.{place_behind}
use Rattle.sml_lexer.specs.Shown.{meaning_in, ShowAll}
use Rattle.sml_lexer.specs.Steps.{kind_meaning}
use Rattle.sml_lexer.specs.Stored.{names_with, texts_with, names_of, texts_of, IsNext, AreCounted}
use Rattle.sml_lexer.specs.Tokens.{Lexeme, AreTokens, Fault, IsFirstFault}

-- one more token, with this spelling at this place, and with the name or text that it cites
pub record AddsToken (old new : Draft) (kind : Kind) (place : Place) (at : ℕ) (text : List ℕ) : Type 0 where
  pub token : Token
  pub items : new.tokens.items ≡ old.tokens.items ++ token ∷ []
  pub kind_is : meaning_in new.names new.texts.items token.kind ≡ Some (kind_meaning kind text)
  pub place_is : token.place ≡ place
  pub at_is : token.at ≡ at
  pub len_is : token.len ≡ length text
  pub numeral_is : token.numeral ≡ is_numeral text
  pub names_are : new.names ≡ names_with old.names (kind_meaning kind text)
  pub texts_are : new.texts.items ≡ texts_with old.texts.items (kind_meaning kind text)
  pub next : IsNext (length old.texts.items) token.kind (length new.texts.items)

-- a refusal of this kind
abbrev pub refusal_of : Trouble → Place → Refusal
refusal_of BadToken place = refusal.BadToken place
refusal_of Unclosed place = refusal.Unclosed place
refusal_of LiteralRange place = refusal.LiteralRange place

-- the tokens of a file, put behind those that were there
pub record IsFileOk (file : ℕ) (bytes : List ℕ) (old new : Draft) (end : Place) : Type 0 where
  pub lexemes : List Lexeme
  pub are : AreTokens bytes lexemes
  pub tokens : List Token
  pub items : new.tokens.items ≡ old.tokens.items ++ tokens
  pub shown : ShowAll file new.names new.texts.items tokens lexemes
  pub names_are : new.names ≡ names_of old.names lexemes
  pub texts_are : new.texts.items ≡ texts_of old.texts.items lexemes
  pub counted : AreCounted (length old.texts.items) tokens (length new.texts.items)
  pub end_is : end ≡ place_behind file bytes

-- want of memory, or the file's first fault
abbrev pub IsFileErr : ℕ → List ℕ → CompileError → Type 0
IsFileErr file bytes error.NoMemory = Unit {0}
IsFileErr file bytes (error.Refused r) = (fault : Fault) × IsFirstFault bytes fault × (r ≡ refusal_of fault.why (place_behind file fault.at))
