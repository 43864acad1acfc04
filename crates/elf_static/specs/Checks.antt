-- Checks, of which the first that fails is the answer.
use Rattle.std.specs.Prelude.{◌≡◌, ℕ, Bool, List, [], ◌∷◌, Option, Some, None, Result, Ok, Err, if◌then◌else◌}
use Rattle.elf_static.specs.declared.error.ElfError.{ElfError}
use Rattle.elf_static.specs.declared.error.ElfError.TheVariants.{NotElf, NoMemory}
use Rattle.elf_static.specs.declared.error.ElfKind.{ElfKind}
use Rattle.elf_static.specs.declared.checks.Check.{Check}

-- a check: whether it fails, and what is answered then
abbrev pub check : Bool → ElfKind → ℕ → Check
check fails kind at = record { fails = fails; kind = kind; at = at }

abbrev pub first_failed : List Check → Option ElfError
first_failed [] = None
first_failed (c ∷ cs) = if c.fails then Some (NotElf c.kind c.at) else first_failed cs

-- what a function returned that does the checks: no check fails, or the first that does, or want of memory
abbrev pub Passes : {X : Type 0} → Result X ElfError → List Check → Type 0
Passes (Ok x) checks = first_failed checks ≡ None
Passes (Err (NotElf kind at)) checks = first_failed checks ≡ Some (NotElf kind at)
Passes (Err NoMemory) checks = Unit {0}
