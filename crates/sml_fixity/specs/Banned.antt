-- The tokens that stand for what is outside the language.
use Rattle.std.specs.Prelude.{ℕ, ◌-◌, nat_le, ◌&&◌, Bool, true, false, cond, slice_get, Option, Some, None, List}
use Rattle.smlc_base.specs.declared.refusal.Banned.{Banned}
use Rattle.smlc_base.specs.declared.refusal.Banned.TheVariants as banned
use Rattle.sml_lexer.specs.declared.reserved.Reserved.{Reserved}
use Rattle.sml_lexer.specs.declared.reserved.Reserved.TheVariants as word
use Rattle.sml_lexer.specs.declared.token.Token.{Token}
use Rattle.sml_lexer.specs.declared.token.TokenKind.{TokenKind}
use Rattle.sml_lexer.specs.declared.token.TokenKind.TheVariants as kind

abbrev pub of_word : Reserved → Option Banned
of_word word.KwAbstype = Some banned.Abstype
of_word word.KwEqtype = Some banned.Eqtype
of_word word.KwFunctor = Some banned.Functor
of_word word.KwInclude = Some banned.Include
of_word word.KwOpen = Some banned.Open
of_word word.KwSharing = Some banned.Sharing
of_word word.KwSig = Some banned.Sig
of_word word.KwSignature = Some banned.Signature
of_word word.KwStruct = Some banned.Struct
of_word word.KwStructure = Some banned.Structure
of_word word.KwWhere = Some banned.Where
of_word word.KwWithtype = Some banned.Withtype
of_word word.KwSeal = Some banned.Seal
of_word word.KwDots = Some banned.Dots
of_word word.KwHash = Some banned.Hash
of_word _ = None

abbrev pub of_kind : TokenKind → Option Banned
of_kind (kind.Word w) = of_word w
of_kind kind.Real = Some banned.Real
of_kind (kind.WordLit v) = Some banned.Word
of_kind _ = None

-- `datatype`, a type constructor and `=` stand at these places
abbrev pub is_datatype : TokenKind → Bool
is_datatype (kind.Word word.KwDatatype) = true
is_datatype _ = false

abbrev pub is_name : TokenKind → Bool
is_name (kind.Id x) = true
is_name (kind.Symbol x) = true
is_name _ = false

abbrev pub is_equals : TokenKind → Bool
is_equals (kind.Word word.KwEquals) = true
is_equals _ = false

abbrev pub passes_at : (TokenKind → Bool) → Option Token → Bool
passes_at test None = false
passes_at test (Some t) = test t.kind

-- `datatype` stands here, directly behind `datatype tycon =`
abbrev pub is_replication : List Token → ℕ → Bool
is_replication tokens i =
    nat_le 3 i
    && (passes_at is_datatype (slice_get tokens (i - 3))
    && (passes_at is_name (slice_get tokens (i - 2))
    && (passes_at is_equals (slice_get tokens (i - 1))
    && passes_at is_datatype (slice_get tokens i))))

abbrev pub of_token : Option Token → Option Banned
of_token None = None
of_token (Some t) = of_kind t.kind

-- the form that the token stands for, if it stands for one
abbrev pub banned_at : List Token → ℕ → Option Banned
banned_at tokens i = cond (is_replication tokens i) (Some banned.Datatype) (of_token (slice_get tokens i))
