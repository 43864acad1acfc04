-- What the definition of a command line says.
use Rattle.std.specs.Prelude.{ℕ, ◌≡◌, List, IfSome}
use Rattle.smlc_words.specs.Given.{IsBetween, IsArena, IsSteps, IsStride}
use Rattle.smlc_words.specs.Asks.{Asked, Compile, Run, Meter, Exec, Types, Plan, Gen, Bench, AreFiles, Asks}

-- words ask at most one thing
abbrev pub AskOnce : Type 0
AskOnce = (words : List (List ℕ)) (a b : Asked) → Asks words a → Asks words b → a ≡ b

-- the ranges of what is asked
abbrev pub IsInRange : Asked → Type 0
IsInRange (Compile files out arena) = AreFiles files × IfSome arena IsArena
IsInRange (Run files arena steps) = AreFiles files × IfSome arena IsArena × IfSome steps IsSteps
IsInRange (Meter files arena steps stride) = AreFiles files × IfSome arena IsArena × IfSome steps IsSteps × IfSome stride IsStride
IsInRange (Exec elf steps) = IfSome steps IsSteps
IsInRange (Types files) = AreFiles files
IsInRange (Plan files) = AreFiles files
IsInRange (Gen number size) = IsBetween 1 10000 size
IsInRange (Bench number size) = IsBetween 1 10000 size

abbrev pub AskInRange : Type 0
AskInRange = (words : List (List ℕ)) (a : Asked) → Asks words a → IsInRange a
