-- A round over all functions, in which those go out of a set that need something that isn't in it.
use Rattle.std.specs.Prelude.{◌≡◌, ℕ, ◌<◌, Bool, true, false, List, length}
use Rattle.simulation.specs.Blocks.{IsAmong}
use Rattle.sml_tree.specs.Sets.{has}
use Rattle.cps_ir.specs.Slim.{Layout, AreClosed}
use Rattle.close_laws.specs.Layouts.{needs_only}

abbrev pub AreAmong : List ℕ → List ℕ → Type 0
AreAmong xs ys = (x : ℕ) → has xs x ≡ true → has ys x ≡ true

-- no two functions have one name
abbrev pub NamedOnce : List Layout → Type 0
NamedOnce all = (l k : Layout) → IsAmong l all → IsAmong k all → l.name ≡ k.name → l ≡ k

-- these functions, if they are in the set, need nothing else
abbrev pub AreMet : List Layout → List ℕ → Type 0
AreMet some set = (l : Layout) → IsAmong l some → has set l.name ≡ true → needs_only set l ≡ true

-- what becomes of a set, where some of all functions have been looked at, and whether one went out
pub record IsRound (all some : List Layout) (old new : List ℕ) (fell : Bool) : Type 0 where
  pub less : AreAmong new old
  -- no function of a closed set goes out
  pub keeps : (more : List ℕ) → AreClosed all more → AreAmong more old → AreAmong more new
  pub fewer : fell ≡ true → length new < length old
  pub same : fell ≡ false → new ≡ old
  pub met : fell ≡ false → AreMet some new

-- a closed set that has each other one
pub record IsGreatest (all : List Layout) (set : List ℕ) : Type 0 where
  pub are : AreClosed all set
  pub greatest : (more : List ℕ) → AreClosed all more → AreAmong more set
