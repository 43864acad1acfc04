-- Small programs by the rules: what each writes, and its outcome, as the machine gives them.
use Rattle.std.proofs.Common.{◌≡◌, ℕ, List, [], ◌∷◌, refl}
use Rattle.std.specs.Prelude.{codes}
use Rattle.sml_tree.specs.declared.bare.Bare.{Bare}
use Rattle.sml_tree.proofs.Programs.{hello, handled, caught, local_exception, written_order, bind_first, lists, packets, lines, ints, texts, refs}
use Rattle.sml_def.specs.State.{Normal, Uncaught}
use Rattle.sml_rules.specs.Rules.{Outcome, Ends, IsDeeper, end_within, output_within}

abbrev told : Bare → List ℕ → ℕ → List ℕ × Outcome
told p input d = (output_within p input d, end_within p input d)

hello_run : told hello ([]) 5 ≡ (104 ∷ 101 ∷ 108 ∷ 108 ∷ 111 ∷ 10 ∷ [], Ends Normal)
hello_run = refl

hello_deep : told hello ([]) 3 ≡ ([], IsDeeper)
hello_deep = refl

handled_run : told handled ([]) 6 ≡ (codes "a", Ends (Uncaught (codes "E")))
handled_run = refl

handled_deep : told handled ([]) 5 ≡ ([], IsDeeper)
handled_deep = refl

caught_run : told caught ([]) 40 ≡ (codes "3", Ends Normal)
caught_run = refl

local_exception_run : told local_exception ([]) 36 ≡ ([], Ends (Uncaught (codes "Empty")))
local_exception_run = refl

written_order_run : told written_order ([]) 40 ≡ (codes "bat2", Ends Normal)
written_order_run = refl

bind_first_run : told bind_first ([]) 4 ≡ ([], Ends (Uncaught (codes "Bind")))
bind_first_run = refl

lists_run : told lists ([]) 40 ≡ (codes "fft", Ends Normal)
lists_run = refl

packets_run : told packets ([]) 40 ≡ (codes "1", Ends Normal)
packets_run = refl

lines_run : told lines (97 ∷ 10 ∷ 98 ∷ []) 40 ≡ (91 ∷ 97 ∷ 10 ∷ 93 ∷ 91 ∷ 98 ∷ 10 ∷ 93 ∷ 46 ∷ [], Ends Normal)
lines_run = refl

ints_run : told ints ([]) 40 ≡ (codes "odt", Ends (Uncaught (codes "Chr")))
ints_run = refl

texts_run : told texts ([]) 40 ≡ (codes "abellz<", Ends (Uncaught (codes "Subscript")))
texts_run = refl

refs_run : told refs ([]) 40 ≡ (codes "te", Ends Normal)
refs_run = refl
