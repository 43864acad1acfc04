-- Static blocks: how long each is, and its bytes. A word has eight bytes, the lowest first.
use Rattle.std.specs.Prelude.{ℕ, zero, suc, ◌+◌, ◌-◌, ◌/◌, ◌%◌, ◌^◌, List, [], ◌∷◌, ◌++◌, length, replicate, codes}
use Rattle.std.specs.List.{flat_map}
use Rattle.std.specs.Int.{w64, to_le_bytes}
use Rattle.smlc_base.specs.declared.exception.LibraryExn.{LibraryExn}
use Rattle.smlc_base.specs.declared.exception.LibraryExn.TheVariants.{MatchExn, BindExn, DivExn, OverflowExn, ChrExn, SubscriptExn, SizeExn, EmptyExn, OptionExn, DomainExn, FailExn}
use Rattle.smlc_base.specs.Exceptions.{exn_text}
use Rattle.rt_prims.specs.declared.line.Routine.TheVariants.{Uncaught}
use Rattle.rt_prims.specs.Lines.{number}
use Rattle.placed_ir.specs.Program.{Placed}
use Rattle.emit_items.specs.Making.{header}
use Rattle.emit_text.specs.Labels.{names_label, routines_label}

-- ---- Sizes in words

-- a string with its header
abbrev pub string_words : List ℕ → ℕ
string_words text = 1 + (length text + 7) / 8

-- the name of an exception of the library: its header, its field, and its spelling behind it
abbrev pub name_words : LibraryExn → ℕ
name_words e = 2 + string_words (exn_text e)

-- a header and the address of code
abbrev pub code_words : ℕ
code_words = 2

-- by number
abbrev pub exceptions : List LibraryExn
exceptions = MatchExn ∷ BindExn ∷ DivExn ∷ OverflowExn ∷ ChrExn ∷ SubscriptExn ∷ SizeExn ∷ EmptyExn ∷ OptionExn ∷ DomainExn ∷ FailExn ∷ []

-- what stands in front of the name of an uncaught exception, and behind it
abbrev pub line_front : List ℕ
line_front = codes "uncaught exception "

abbrev pub line_back : List ℕ
line_back = 10 ∷ []

-- ---- Bytes

unfoldable pub word : ℕ → List ℕ
word n = to_le_bytes w64 n

-- the text, filled up with 0 to whole words
unfoldable pub string_block : List ℕ → List ℕ
string_block text = word (header 2 0 (length text)) ++ (text ++ replicate ((8 - length text % 8) % 8) 0)

-- the name at an address, whose spelling stands two words behind it
unfoldable pub name_block : ℕ → List ℕ → List ℕ
name_block address spelling = word (header 4 0 1) ++ (word (address + 16) ++ string_block spelling)

unfoldable pub code_block : (tag address : ℕ) → List ℕ
code_block tag address = word (header 6 tag 1) ++ word address

-- the names of these exceptions, where the addresses of their labels are known
abbrev pub names_from : (ℕ → ℕ) → ℕ → List LibraryExn → List ℕ
names_from at label [] = []
names_from at label (e ∷ exns) = name_block (at label) (exn_text e) ++ names_from at (label + 1) exns

-- closed functions from a label on
abbrev pub closures_from : (ℕ → ℕ) → ℕ → ℕ → List ℕ
closures_from at zero label = []
closures_from at (suc n) label = code_block label (at label) ++ closures_from at n (label + 1)

-- the tag of the handler that ends the run, which is no label's
abbrev pub handler_tag : ℕ
handler_tag = 2 ^ 29 - 2

-- The static blocks one behind the other: string constants, spellings, the library's exceptions, closed functions, the handler that ends the run, and the
-- two parts of the line that it writes.
abbrev pub read_only : Placed → (ℕ → ℕ) → List ℕ
read_only p at =
    flat_map string_block p.texts
    ++ (flat_map string_block p.exns
    ++ (names_from at (names_label p) exceptions
    ++ (closures_from at (length p.functions) 0
    ++ (code_block handler_tag (at (routines_label p + number Uncaught))
    ++ (string_block line_front ++ string_block line_back)))))
