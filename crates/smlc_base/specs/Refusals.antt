-- The number, the name and the place of a refusal.
use Rattle.std.specs.Prelude.{ℕ, List, codes}
use Rattle.smlc_base.specs.declared.place.Place.{Place}
use Rattle.smlc_base.specs.declared.refusal.Banned.{Banned}
use Rattle.smlc_base.specs.declared.refusal.Banned.TheVariants as banned
use Rattle.smlc_base.specs.declared.refusal.Refusal.{Refusal}
use Rattle.smlc_base.specs.declared.refusal.Refusal.TheVariants.{BadToken, Unclosed, LiteralRange, Syntax, MixedFixity, NotInSubset, TooLong, TooDeep, TooWide, Unbound, BadBinding, BadType, UndecidedRow}

abbrev pub number_of : Refusal → ℕ
number_of (BadToken p) = 1
number_of (Unclosed p) = 2
number_of (LiteralRange p) = 3
number_of (Syntax p) = 4
number_of (MixedFixity p) = 5
number_of (NotInSubset p b) = 6
number_of (TooLong p) = 7
number_of (TooDeep p) = 8
number_of (TooWide p) = 9
number_of (Unbound p) = 10
number_of (BadBinding p) = 11
number_of (BadType p) = 12
number_of (UndecidedRow p) = 13

abbrev pub place_of : Refusal → Place
place_of (BadToken p) = p
place_of (Unclosed p) = p
place_of (LiteralRange p) = p
place_of (Syntax p) = p
place_of (MixedFixity p) = p
place_of (NotInSubset p b) = p
place_of (TooLong p) = p
place_of (TooDeep p) = p
place_of (TooWide p) = p
place_of (Unbound p) = p
place_of (BadBinding p) = p
place_of (BadType p) = p
place_of (UndecidedRow p) = p

abbrev pub kind_of : Refusal → List ℕ
kind_of (BadToken p) = codes "BadToken"
kind_of (Unclosed p) = codes "Unclosed"
kind_of (LiteralRange p) = codes "LiteralRange"
kind_of (Syntax p) = codes "Syntax"
kind_of (MixedFixity p) = codes "MixedFixity"
kind_of (NotInSubset p b) = codes "NotInSubset"
kind_of (TooLong p) = codes "TooLong"
kind_of (TooDeep p) = codes "TooDeep"
kind_of (TooWide p) = codes "TooWide"
kind_of (Unbound p) = codes "Unbound"
kind_of (BadBinding p) = codes "BadBinding"
kind_of (BadType p) = codes "BadType"
kind_of (UndecidedRow p) = codes "UndecidedRow"

-- the word that is printed for a form outside the language
abbrev pub word_of : Banned → List ℕ
word_of banned.Later = codes "later"
word_of banned.Abstype = codes "abstype"
word_of banned.Eqtype = codes "eqtype"
word_of banned.Functor = codes "functor"
word_of banned.Include = codes "include"
word_of banned.Open = codes "open"
word_of banned.Sharing = codes "sharing"
word_of banned.Sig = codes "sig"
word_of banned.Signature = codes "signature"
word_of banned.Struct = codes "struct"
word_of banned.Structure = codes "structure"
word_of banned.Where = codes "where"
word_of banned.Withtype = codes "withtype"
word_of banned.Seal = codes ":>"
word_of banned.Dots = codes "..."
word_of banned.Hash = codes "#"
word_of banned.Datatype = codes "datatype"
word_of banned.Real = codes "real"
word_of banned.Word = codes "word"
