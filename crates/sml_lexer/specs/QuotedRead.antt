-- What has been read of a constant in quotes.
use Rattle.std.specs.Prelude.{◌≡◌, ◌≢◌, ℕ, ◌≤◌, Bool, true, false, List, [], ◌∷◌, ◌++◌, length, take, Option, Some, None, if◌then◌else◌, nat_lt}
use Rattle.sml_lexer.specs.declared.quoted.Ending.{Ending}
use Rattle.sml_lexer.specs.declared.quoted.Ending.TheVariants as ending
use Rattle.sml_lexer.specs.Bytes.{is_control}
use Rattle.sml_lexer.specs.Quoted.{Part, character, stray, AreParts, IsOpen, IsUnknown, has_wide}

-- the code of a character in range, else 0
abbrev pub low_byte : ℕ → ℕ
low_byte n = if nat_lt 255 n then 0 else n

abbrev pub values : List Part → List ℕ
values [] = []
values (character n ∷ ps) = low_byte n ∷ values ps
values (stray ∷ ps) = values ps

abbrev pub has_stray : List Part → Bool
has_stray [] = false
has_stray (character n ∷ ps) = has_stray ps
has_stray (stray ∷ ps) = true

abbrev pub first_of : Option ℕ → ℕ → Option ℕ
first_of (Some place) at = Some place
first_of None at = Some at

-- where the first control byte stands
pub data FirstStray : List ℕ → List Part → Option ℕ → Type 0 where
  none : (s : List ℕ) (ps : List Part) → has_stray ps ≡ false → FirstStray s ps None
  at : (s t : List ℕ) (c : ℕ) (ps qs : List Part) → AreParts s ps → has_stray ps ≡ false → is_control c ≡ true → c ≢ 10 → AreParts t qs → FirstStray (s ++ c ∷ t) (ps ++ stray ∷ qs) (Some (length s))

-- the parts that so many bytes are
pub record IsRead (bytes : List ℕ) (len : ℕ) (value : List ℕ) (wide : Bool) (strayed : Option ℕ) : Type 0 where
  pub in_range : len ≤ length bytes
  pub parts : List Part
  pub are : AreParts (take len bytes) parts
  pub values_are : values parts ≡ value
  pub wide_is : has_wide parts ≡ wide
  pub stray_is : FirstStray (take len bytes) parts strayed

-- how a constant ends
abbrev pub Ends : Ending → List ℕ → Type 0
Ends ending.Closed s = (t : List ℕ) × (s ≡ 34 ∷ t)
Ends ending.Open s = IsOpen s
Ends ending.Unknown s = IsUnknown s
