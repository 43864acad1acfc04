-- What the words behind the command give, read from left to right.
use Rattle.std.specs.Prelude.{ℕ, ◌≡◌, ◌≢◌, ◌≤◌, ◌^◌, List, [], ◌∷◌, ◌++◌, length, codes, Option, Some, None}
use Rattle.std.specs.Str.Parse.{IsNumeral, digits_value}
use Rattle.smlc_words.specs.declared.flag.Flag.{Flag}
use Rattle.smlc_words.specs.declared.flag.Flag.TheVariants.{Out, Arena, Steps, Stride}

-- a word that isn't empty and doesn't begin with -
abbrev pub IsOperand : List ℕ → Type 0
IsOperand [] = ⊥
IsOperand (c ∷ cs) = c ≢ 45

-- the word is 1 to 20 decimal digits, and they write the number
abbrev pub IsNumber : List ℕ → ℕ → Type 0
IsNumber word n = IsNumeral 10 word × (length word ≤ 20) × (n ≡ digits_value 10 word)

abbrev pub IsBetween : ℕ → ℕ → ℕ → Type 0
IsBetween low high n = (low ≤ n) × (n ≤ high)

-- words of memory
abbrev pub IsArena : ℕ → Type 0
IsArena n = IsBetween 1024 134217728 n

-- instructions
abbrev pub IsSteps : ℕ → Type 0
IsSteps n = IsBetween 0 (2 ^ 62) n

abbrev pub IsStride : ℕ → Type 0
IsStride n = IsBetween 1 (2 ^ 32) n

-- the operands in order, and the value of each option that was given
pub record Given : Type 0 where
  pub operands : List (List ℕ)
  pub out : Option (List ℕ)
  pub arena : Option ℕ
  pub steps : Option ℕ
  pub stride : Option ℕ

abbrev pub nothing : Given
nothing = record { operands = []; out = None; arena = None; steps = None; stride = None }

abbrev pub with_operand : Given → List ℕ → Given
with_operand g word = record g { operands = g.operands ++ word ∷ [] }

-- how the option is written
abbrev pub spelling : Flag → List ℕ
spelling Out = codes "-o"
spelling Arena = codes "--arena"
spelling Steps = codes "--steps"
spelling Stride = codes "--stride"

-- the option, not given before, takes the word as its value, and what was given becomes `then`
abbrev pub Takes : Flag → List ℕ → Given → Given → Type 0
Takes Out word g then = (g.out ≡ None) × IsOperand word × (then ≡ record g { out = Some word })
Takes Arena word g then = (g.arena ≡ None) × ((n : ℕ) × IsNumber word n × IsArena n × (then ≡ record g { arena = Some n }))
Takes Steps word g then = (g.steps ≡ None) × ((n : ℕ) × IsNumber word n × IsSteps n × (then ≡ record g { steps = Some n }))
Takes Stride word g then = (g.stride ≡ None) × ((n : ℕ) × IsNumber word n × IsStride n × (then ≡ record g { stride = Some n }))

-- with these words behind what was given so far, `whole` is given in all
pub data IsGiven (whole : Given) : Given → List (List ℕ) → Type 0 where
  -- no word is left
  AtEnd : IsGiven whole whole []
  -- the next word is an operand
  AnOperand : (g : Given) (word : List ℕ) (words : List (List ℕ)) → IsOperand word → IsGiven whole (with_operand g word) words → IsGiven whole g (word ∷ words)
  -- the next word is an option, and the one behind it its value
  AnOption : (flag : Flag) (value : List ℕ) (g then : Given) (words : List (List ℕ)) → Takes flag value g then → IsGiven whole then words → IsGiven whole g (spelling flag ∷ value ∷ words)
