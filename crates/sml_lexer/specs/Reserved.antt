-- The reserved words and their spellings.
use Rattle.std.specs.Prelude.{◌≡◌, ℕ, List, [], ◌∷◌, Option, Some, None, codes, bytes_eq, if◌then◌else◌}
use Rattle.sml_lexer.specs.declared.reserved.Reserved.{Reserved}
use Rattle.sml_lexer.specs.declared.reserved.Reserved.TheVariants.{KwAbstype, KwAnd, KwAndalso, KwAs, KwCase, KwDatatype, KwDo, KwElse, KwEnd, KwException, KwFn, KwFun, KwHandle, KwIf, KwIn, KwInfix, KwInfixr, KwLet, KwLocal, KwNonfix, KwOf, KwOp, KwOpen, KwOrelse, KwRaise, KwRec, KwThen, KwType, KwVal, KwWith, KwWithtype, KwWhile, KwEqtype, KwFunctor, KwInclude, KwSharing, KwSig, KwSignature, KwStruct, KwStructure, KwWhere, KwOpenParen, KwCloseParen, KwOpenBracket, KwCloseBracket, KwOpenBrace, KwCloseBrace, KwComma, KwColon, KwSemicolon, KwDots, KwUnderscore, KwBar, KwEquals, KwDoubleArrow, KwArrow, KwHash, KwSeal}

abbrev pub spelling : Reserved → List ℕ
spelling KwAbstype = codes "abstype"
spelling KwAnd = codes "and"
spelling KwAndalso = codes "andalso"
spelling KwAs = codes "as"
spelling KwCase = codes "case"
spelling KwDatatype = codes "datatype"
spelling KwDo = codes "do"
spelling KwElse = codes "else"
spelling KwEnd = codes "end"
spelling KwException = codes "exception"
spelling KwFn = codes "fn"
spelling KwFun = codes "fun"
spelling KwHandle = codes "handle"
spelling KwIf = codes "if"
spelling KwIn = codes "in"
spelling KwInfix = codes "infix"
spelling KwInfixr = codes "infixr"
spelling KwLet = codes "let"
spelling KwLocal = codes "local"
spelling KwNonfix = codes "nonfix"
spelling KwOf = codes "of"
spelling KwOp = codes "op"
spelling KwOpen = codes "open"
spelling KwOrelse = codes "orelse"
spelling KwRaise = codes "raise"
spelling KwRec = codes "rec"
spelling KwThen = codes "then"
spelling KwType = codes "type"
spelling KwVal = codes "val"
spelling KwWith = codes "with"
spelling KwWithtype = codes "withtype"
spelling KwWhile = codes "while"
spelling KwEqtype = codes "eqtype"
spelling KwFunctor = codes "functor"
spelling KwInclude = codes "include"
spelling KwSharing = codes "sharing"
spelling KwSig = codes "sig"
spelling KwSignature = codes "signature"
spelling KwStruct = codes "struct"
spelling KwStructure = codes "structure"
spelling KwWhere = codes "where"
spelling KwOpenParen = codes "("
spelling KwCloseParen = codes ")"
spelling KwOpenBracket = codes "["
spelling KwCloseBracket = codes "]"
spelling KwOpenBrace = codes "{"
spelling KwCloseBrace = codes "}"
spelling KwComma = codes ","
spelling KwColon = codes ":"
spelling KwSemicolon = codes ";"
spelling KwDots = codes "..."
spelling KwUnderscore = codes "_"
spelling KwBar = codes "|"
spelling KwEquals = codes "="
spelling KwDoubleArrow = codes "=>"
spelling KwArrow = codes "->"
spelling KwHash = codes "#"
spelling KwSeal = codes ":>"

-- the text is a reserved word
abbrev pub IsReserved : List ℕ → Type 0
IsReserved text = (word : Reserved) × (spelling word ≡ text)

abbrev pub reserved_words : List Reserved
reserved_words = KwAbstype ∷ KwAnd ∷ KwAndalso ∷ KwAs ∷ KwCase ∷ KwDatatype ∷ KwDo ∷ KwElse ∷ KwEnd ∷ KwException ∷ KwFn ∷ KwFun ∷ KwHandle ∷ KwIf ∷ KwIn ∷ KwInfix ∷ KwInfixr ∷ KwLet ∷ KwLocal ∷ KwNonfix ∷ KwOf ∷ KwOp ∷ KwOpen ∷ KwOrelse ∷ KwRaise ∷ KwRec ∷ KwThen ∷ KwType ∷ KwVal ∷ KwWith ∷ KwWithtype ∷ KwWhile ∷ KwEqtype ∷ KwFunctor ∷ KwInclude ∷ KwSharing ∷ KwSig ∷ KwSignature ∷ KwStruct ∷ KwStructure ∷ KwWhere ∷ KwOpenParen ∷ KwCloseParen ∷ KwOpenBracket ∷ KwCloseBracket ∷ KwOpenBrace ∷ KwCloseBrace ∷ KwComma ∷ KwColon ∷ KwSemicolon ∷ KwDots ∷ KwUnderscore ∷ KwBar ∷ KwEquals ∷ KwDoubleArrow ∷ KwArrow ∷ KwHash ∷ KwSeal ∷ []

-- the first of these words that is spelled so
abbrev pub first_spelled : List Reserved → List ℕ → Option Reserved
first_spelled [] text = None
first_spelled (word ∷ words) text = if bytes_eq (spelling word) text then Some word else first_spelled words text

-- the reserved word that is spelled so
unfoldable pub reserved_of : List ℕ → Option Reserved
reserved_of text = first_spelled reserved_words text
