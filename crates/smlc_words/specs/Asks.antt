-- What the words of a command line ask.
use Rattle.std.specs.Prelude.{ℕ, ◌≡◌, ◌-◌, ◌^◌, List, [], ◌∷◌, length, map, codes, Option, Some, MatchOption}
use Rattle.smlc_words.specs.declared.asked.Command.{Command}
use Rattle.smlc_words.specs.declared.asked.Command.TheVariants as command
use Rattle.smlc_words.specs.Given.{IsNumber, IsBetween, Given, nothing, IsGiven}

-- a command with what it is done with; an option that isn't given is None
pub data Asked : Type 0 where
  Compile : (files : List (List ℕ)) (out : List ℕ) (arena : Option ℕ) → Asked
  Run : (files : List (List ℕ)) (arena steps : Option ℕ) → Asked
  Meter : (files : List (List ℕ)) (arena steps stride : Option ℕ) → Asked
  Exec : (elf : List ℕ) (steps : Option ℕ) → Asked
  Types : (files : List (List ℕ)) → Asked
  Plan : (files : List (List ℕ)) → Asked
  Gen : (number size : ℕ) → Asked
  Bench : (number size : ℕ) → Asked

abbrev pub AreFiles : List (List ℕ) → Type 0
AreFiles files = IsBetween 1 256 (length files)

-- the operands are the number of a program and its size
abbrev pub AreNumbers : List (List ℕ) → ℕ → ℕ → Type 0
AreNumbers (first ∷ second ∷ []) number size = IsNumber first number × IsBetween 0 (2 ^ 64 - 1) number × IsNumber second size × IsBetween 1 10000 size
AreNumbers operands number size = ⊥

-- the operands alone
abbrev pub only : List (List ℕ) → Given
only operands = record nothing { operands = operands }

-- the command's name, with what is given behind it: the operands that it takes, and no option but those that it names
abbrev pub IsFor : List ℕ → Given → Asked → Type 0
IsFor name g (Compile files out arena) = (name ≡ codes "compile") × AreFiles files × (g ≡ record (only files) { out = Some out; arena = arena })
IsFor name g (Run files arena steps) = (name ≡ codes "run") × AreFiles files × (g ≡ record (only files) { arena = arena; steps = steps })
IsFor name g (Meter files arena steps stride) = (name ≡ codes "meter") × AreFiles files × (g ≡ record (only files) { arena = arena; steps = steps; stride = stride })
IsFor name g (Exec elf steps) = (name ≡ codes "exec") × (g ≡ record (only (elf ∷ [])) { steps = steps })
IsFor name g (Types files) = (name ≡ codes "types") × AreFiles files × (g ≡ only files)
IsFor name g (Plan files) = (name ≡ codes "plan") × AreFiles files × (g ≡ only files)
IsFor name g (Gen number size) = (name ≡ codes "gen") × AreNumbers g.operands number size × (g ≡ only g.operands)
IsFor name g (Bench number size) = (name ≡ codes "bench") × AreNumbers g.operands number size × (g ≡ only g.operands)

-- the words are the program's name, a command's name and what is given behind it
abbrev pub Asks : List (List ℕ) → Asked → Type 0
Asks (program ∷ name ∷ words) asked = (g : Given) × IsGiven g nothing words × IsFor name g asked
Asks words asked = ⊥

-- what a command asks
abbrev pub asked : Command → Asked
asked (command.Compile files out arena) = Compile (map (λ file. file.now) files.items) out.now arena
asked (command.Run files arena steps) = Run (map (λ file. file.now) files.items) arena steps
asked (command.Meter files arena steps stride) = Meter (map (λ file. file.now) files.items) arena steps stride
asked (command.Exec elf steps) = Exec elf.now steps
asked (command.Types files) = Types (map (λ file. file.now) files.items)
asked (command.Plan files) = Plan (map (λ file. file.now) files.items)
asked (command.Gen number size) = Gen number size
asked (command.Bench number size) = Bench number size

-- the answer is what the command of this name asks with what is given, and None where it asks nothing
abbrev pub IsAnswer : List ℕ → Given → Option Command → Type 0
IsAnswer name g answer = MatchOption answer ((a : Asked) → IsFor name g a → ⊥) (λ c. IsFor name g (asked c))
