-- What stands at a place of a file.
use Rattle.std.specs.Prelude.{◌≡◌, ◌≢◌, slice_index, ℕ, ◌+◌, ◌≤◌, ◌<◌, Bool, not, ◌&&◌, ◌==◌, List, length, take, drop, Option, Some, None, if◌then◌else◌, ◌⊎◌}
use Rattle.sml_lexer.specs.declared.quoted.Ending.{Ending}
use Rattle.sml_lexer.specs.declared.quoted.Ending.TheVariants as ending
use Rattle.sml_lexer.specs.declared.step.Kind.{Kind}
use Rattle.sml_lexer.specs.declared.step.Kind.TheVariants as kind
use Rattle.sml_lexer.specs.declared.step.Spot.{Spot}
use Rattle.sml_lexer.specs.declared.step.Step.{Step}
use Rattle.sml_lexer.specs.declared.step.Step.TheVariants as step
use Rattle.sml_lexer.specs.declared.step.Trouble.{Trouble}
use Rattle.sml_lexer.specs.declared.step.Trouble.TheVariants.{BadToken, Unclosed, LiteralRange}
use Rattle.sml_lexer.specs.Gaps.{IsGap}
use Rattle.sml_lexer.specs.Meanings.{Meaning}
use Rattle.sml_lexer.specs.Meanings as meaning
use Rattle.sml_lexer.specs.Tokens.{StandsAs, IsAllowed, FailsAt, number_of}

-- what a token of a kind and a spelling means
abbrev pub kind_meaning : Kind → List ℕ → Meaning
kind_meaning (kind.Word w) s = meaning.word w
kind_meaning kind.Id s = meaning.identifier s
kind_meaning kind.Symbol s = meaning.symbol s
kind_meaning kind.Long s = meaning.long s
kind_meaning kind.TyVar s = meaning.type_variable s
kind_meaning kind.WordLit s = meaning.word_constant
kind_meaning kind.Real s = meaning.real
kind_meaning (kind.Int z) s = meaning.integer z
kind_meaning (kind.Text codes) s = meaning.text codes.items
kind_meaning (kind.Char n) s = meaning.character n

-- a fault that comes before each fault at a place
pub record IsFirstAt (bytes : List ℕ) (spot : Spot) : Type 0 where
  pub room : spot.back ≤ length bytes
  pub fails : FailsAt bytes (take spot.back bytes) spot.trouble
  pub first : (k : List ℕ) (why : Trouble) → FailsAt bytes k why → (spot.back < length k) ⊎ ((spot.back ≡ length k) × (number_of spot.trouble ≤ number_of why))

-- a token at a place
pub record IsTokenAt (bytes : List ℕ) (len : ℕ) (m : Meaning) : Type 0 where
  pub some : 0 < len
  pub room : len ≤ length bytes
  pub stands : StandsAs (take len bytes) (drop len bytes) m
  pub allowed : IsAllowed m

-- a gap at a place
pub record IsGapAt (bytes : List ℕ) (len : ℕ) : Type 0 where
  pub some : 0 < len
  pub room : len ≤ length bytes
  pub is : IsGap (take len bytes)

abbrev pub IsStep : List ℕ → Step → Type 0
IsStep bytes (step.Gap len) = IsGapAt bytes len
IsStep bytes (step.Token len k) = IsTokenAt bytes len (kind_meaning k (take len bytes))
IsStep bytes (step.Fault spot) = IsFirstAt bytes spot

-- the first fault of a constant in quotes
abbrev pub closed_fault : Bool → Bool → Option ℕ → ℕ → Option Spot
closed_fault bad_count wide (Some at) opening = if bad_count then Some (record { back = 0; trouble = BadToken }) else (if wide then Some (record { back = 0; trouble = LiteralRange }) else Some (record { back = opening + at; trouble = BadToken }))
closed_fault bad_count wide None opening = if bad_count then Some (record { back = 0; trouble = BadToken }) else (if wide then Some (record { back = 0; trouble = LiteralRange }) else None)

abbrev pub fault_of : Ending → Bool → ℕ → Bool → Option ℕ → ℕ → Option Spot
fault_of ending.Unknown is_char count wide stray opening = Some (record { back = 0; trouble = BadToken })
fault_of ending.Open is_char count wide stray opening = Some (record { back = 0; trouble = Unclosed })
fault_of ending.Closed is_char count wide stray opening = closed_fault (is_char && not (count == 1)) wide stray opening

-- no quote opens a constant here
pub record OpensNone (bytes : List ℕ) : Type 0 where
  pub no_quote : slice_index bytes 0 ≢ 34
  pub no_hash : slice_index bytes 0 ≡ 35 → slice_index bytes 1 ≢ 34

-- no comment opens here
abbrev pub NoComment : List ℕ → Type 0
NoComment bytes = slice_index bytes 0 ≡ 40 → slice_index bytes 1 ≢ 42
