-- Small programs run: what each writes, and how it ends, after as many steps as an independent model takes.
use Rattle.std.proofs.Common.{◌≡◌, ℕ, List, [], ◌∷◌, refl}
use Rattle.std.specs.Prelude.{codes}
use Rattle.sml_tree.specs.declared.bare.Bare.{Bare}
use Rattle.simulation.specs.Runs.{End}
use Rattle.simulation.specs.Runs as runs
use Rattle.sml_tree.proofs.Programs.{hello, handled, caught, local_exception, written_order, bind_first, lists, packets, lines, ints, texts, refs}
use Rattle.sml_def.specs.Run.{run}

abbrev told : Bare → List ℕ → ℕ → List ℕ × End
told p input n = ((run p input).out n, (run p input).end n)

hello_run : told hello ([]) 10 ≡ (104 ∷ 101 ∷ 108 ∷ 108 ∷ 111 ∷ 10 ∷ [], runs.Normal)
hello_run = refl

handled_run : told handled ([]) 17 ≡ (codes "a", runs.Uncaught (codes "E"))
handled_run = refl

caught_run : told caught ([]) 40 ≡ (codes "3", runs.Normal)
caught_run = refl

local_exception_run : told local_exception ([]) 36 ≡ ([], runs.Uncaught (codes "Empty"))
local_exception_run = refl

written_order_run : told written_order ([]) 79 ≡ (codes "bat2", runs.Normal)
written_order_run = refl

bind_first_run : told bind_first ([]) 4 ≡ ([], runs.Uncaught (codes "Bind"))
bind_first_run = refl

lists_run : told lists ([]) 146 ≡ (codes "fft", runs.Normal)
lists_run = refl

packets_run : told packets ([]) 94 ≡ (codes "1", runs.Normal)
packets_run = refl

lines_run : told lines (97 ∷ 10 ∷ 98 ∷ []) 114 ≡ (91 ∷ 97 ∷ 10 ∷ 93 ∷ 91 ∷ 98 ∷ 10 ∷ 93 ∷ 46 ∷ [], runs.Normal)
lines_run = refl

ints_run : told ints ([]) 126 ≡ (codes "odt", runs.Uncaught (codes "Chr"))
ints_run = refl

texts_run : told texts ([]) 109 ≡ (codes "abellz<", runs.Uncaught (codes "Subscript"))
texts_run = refl

refs_run : told refs ([]) 139 ≡ (codes "te", runs.Normal)
refs_run = refl
