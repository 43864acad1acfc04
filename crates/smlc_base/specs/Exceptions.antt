-- The number and the spelling of a library exception.
use Rattle.std.specs.Prelude.{ℕ, List, codes}
use Rattle.smlc_base.specs.declared.exception.LibraryExn.{LibraryExn}
use Rattle.smlc_base.specs.declared.exception.LibraryExn.TheVariants as exn

abbrev pub exn_number : LibraryExn → ℕ
exn_number exn.MatchExn = 0
exn_number exn.BindExn = 1
exn_number exn.DivExn = 2
exn_number exn.OverflowExn = 3
exn_number exn.ChrExn = 4
exn_number exn.SubscriptExn = 5
exn_number exn.SizeExn = 6
exn_number exn.EmptyExn = 7
exn_number exn.OptionExn = 8
exn_number exn.DomainExn = 9
exn_number exn.FailExn = 10

-- how it is shown where it is never caught
abbrev pub exn_text : LibraryExn → List ℕ
exn_text exn.MatchExn = codes "Match"
exn_text exn.BindExn = codes "Bind"
exn_text exn.DivExn = codes "Div"
exn_text exn.OverflowExn = codes "Overflow"
exn_text exn.ChrExn = codes "Chr"
exn_text exn.SubscriptExn = codes "Subscript"
exn_text exn.SizeExn = codes "Size"
exn_text exn.EmptyExn = codes "Empty"
exn_text exn.OptionExn = codes "Option"
exn_text exn.DomainExn = codes "Domain"
exn_text exn.FailExn = codes "Fail"
