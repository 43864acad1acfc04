-- The tokens as the grammar sees them.
use Rattle.std.specs.Prelude.{ℕ, ℤ, pos, int_le, nat_eq, ◌&&◌, ◌++◌, not, nat_abs, Bool, false, cond, bytes_eq, codes, drop, ◌-◌, length, map, slice_get, Option, Some, None, List, [], ◌∷◌}
use Rattle.sml_lexer.specs.declared.reserved.Reserved.{Reserved}
use Rattle.sml_lexer.specs.declared.reserved.Reserved.TheVariants as word
use Rattle.sml_lexer.specs.declared.token.Token.{Token}
use Rattle.sml_lexer.specs.declared.token.TokenKind.{TokenKind}
use Rattle.sml_lexer.specs.declared.token.TokenKind.TheVariants as kind
use Rattle.sml_syntax.specs.declared.forms.Terminal.{Terminal}
use Rattle.sml_syntax.specs.declared.forms.Terminal.TheVariants as tok
use Rattle.sml_syntax.specs.declared.forms.Shape.{Shape}
use Rattle.sml_syntax.specs.declared.forms.Shape.TheVariants as shape

abbrev pub of_word : Reserved → Terminal
of_word word.KwAnd = tok.And
of_word word.KwAndalso = tok.Andalso
of_word word.KwAs = tok.As
of_word word.KwCase = tok.Case
of_word word.KwDatatype = tok.Datatype
of_word word.KwDo = tok.Do
of_word word.KwElse = tok.Else
of_word word.KwEnd = tok.End
of_word word.KwException = tok.Exception
of_word word.KwFn = tok.Fn
of_word word.KwFun = tok.Fun
of_word word.KwHandle = tok.Handle
of_word word.KwIf = tok.If
of_word word.KwIn = tok.In
of_word word.KwInfix = tok.Infix
of_word word.KwInfixr = tok.Infixr
of_word word.KwLet = tok.Let
of_word word.KwLocal = tok.Local
of_word word.KwNonfix = tok.Nonfix
of_word word.KwOf = tok.Of
of_word word.KwOp = tok.Op
of_word word.KwOrelse = tok.Orelse
of_word word.KwRaise = tok.Raise
of_word word.KwRec = tok.Rec
of_word word.KwThen = tok.Then
of_word word.KwType = tok.Type
of_word word.KwVal = tok.Val
of_word word.KwWhile = tok.While
of_word word.KwOpenParen = tok.Open
of_word word.KwCloseParen = tok.Close
of_word word.KwOpenBracket = tok.OpenBracket
of_word word.KwCloseBracket = tok.CloseBracket
of_word word.KwOpenBrace = tok.OpenBrace
of_word word.KwCloseBrace = tok.CloseBrace
of_word word.KwComma = tok.Comma
of_word word.KwColon = tok.Colon
of_word word.KwSemicolon = tok.Semicolon
of_word word.KwUnderscore = tok.Underscore
of_word word.KwBar = tok.Bar
of_word word.KwEquals = tok.Equals
of_word word.KwDoubleArrow = tok.Arrow
of_word word.KwArrow = tok.To
of_word word.KwAbstype = tok.Foreign
of_word word.KwOpen = tok.Foreign
of_word word.KwWith = tok.Foreign
of_word word.KwWithtype = tok.Foreign
of_word word.KwEqtype = tok.Foreign
of_word word.KwFunctor = tok.Foreign
of_word word.KwInclude = tok.Foreign
of_word word.KwSharing = tok.Foreign
of_word word.KwSig = tok.Foreign
of_word word.KwSignature = tok.Foreign
of_word word.KwStruct = tok.Foreign
of_word word.KwStructure = tok.Foreign
of_word word.KwWhere = tok.Foreign
of_word word.KwDots = tok.Foreign
of_word word.KwHash = tok.Foreign
of_word word.KwSeal = tok.Foreign

-- the text is `*`
abbrev pub is_star : List ℕ → Bool
is_star text = bytes_eq text (codes "*")

-- the last part of a long identifier is `*`
abbrev pub ends_in_star : List ℕ → Bool
ends_in_star text = bytes_eq (drop (length text - 2) text) (codes ".*")

-- the text that a name has passes a test
abbrev pub passes : (List ℕ → Bool) → Option (List ℕ) → Bool
passes test None = false
passes test (Some text) = test text

-- how an integer constant of so many bytes is written: of one byte it is a decimal digit
abbrev pub shape_of : ℤ → ℕ → Bool → Shape
shape_of z len numeral = cond (nat_eq len 1 && (int_le (pos 0) z && int_le z (pos 9))) (shape.Digit (nat_abs z)) (cond numeral shape.Numeral shape.Other)

abbrev pub of_kind : List (List ℕ) → ℕ → Bool → TokenKind → Terminal
of_kind names len numeral (kind.Word w) = of_word w
of_kind names len numeral (kind.Id x) = tok.Id x (passes is_star (slice_get names x.0))
of_kind names len numeral (kind.Symbol x) = tok.Id x (passes is_star (slice_get names x.0))
of_kind names len numeral (kind.Long x) = tok.Long x (not (passes ends_in_star (slice_get names x.0)))
of_kind names len numeral (kind.TyVar x) = tok.TyVar x
of_kind names len numeral (kind.Int z) = tok.Int z (shape_of z len numeral)
of_kind names len numeral (kind.WordLit v) = tok.Foreign
of_kind names len numeral kind.Real = tok.Foreign
of_kind names len numeral (kind.Char c) = tok.Char c
of_kind names len numeral (kind.Text i) = tok.Text i

abbrev pub terminal_of : List (List ℕ) → Token → Terminal
terminal_of names t = of_kind names t.len t.numeral t.kind

-- the tokens and the end behind them
abbrev pub terminals : List (List ℕ) → List Token → List Terminal
terminals names tokens = map (terminal_of names) tokens ++ tok.Finish ∷ []
