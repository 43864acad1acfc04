-- What a spelling of a class means.
use Rattle.std.specs.Prelude.{ℕ, List}
use Rattle.sml_lexer.specs.declared.plain.Class.{Class}
use Rattle.sml_lexer.specs.declared.plain.Class.TheVariants.{Word, Id, Symbol, Long, TyVar, Int, WordLit, Real}
use Rattle.sml_lexer.specs.Meanings.{Meaning}
use Rattle.sml_lexer.specs.Meanings as meaning
use Rattle.sml_lexer.specs.IntegerScan.{integer_of}

abbrev pub meaning_of : Class → List ℕ → Meaning
meaning_of (Word w) s = meaning.word w
meaning_of Id s = meaning.identifier s
meaning_of Symbol s = meaning.symbol s
meaning_of Long s = meaning.long s
meaning_of TyVar s = meaning.type_variable s
meaning_of Int s = meaning.integer (integer_of s)
meaning_of WordLit s = meaning.word_constant
meaning_of Real s = meaning.real
