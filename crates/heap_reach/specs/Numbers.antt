-- Sets of numbers below a bound, in the order in which the numbers came.
use Rattle.std.specs.Prelude.{◌≡◌, ℕ, ◌<◌, ◌≤◌, ◌^◌, Bool, true, false, List, ◌++◌, length, take, get_or}
use Rattle.simulation.specs.Blocks.{IsAmong}
use Rattle.simulation.specs.Words.{IsDistinct}

-- the bound, and the numbers
pub record Numbers : Type 0 where
  pub room : ℕ
  pub numbers : List ℕ

-- each number is below the bound and stands once, so there are no more than the bound says
pub record IsSet (n : Numbers) : Type 0 where
  pub distinct : IsDistinct n.numbers
  pub below : (j : ℕ) → IsAmong j n.numbers → j < n.room
  pub few : length n.numbers ≤ n.room
  pub small : n.room < 2 ^ 32

-- A mark stands at each of the numbers and nowhere else, and no number stands twice.
pub record IsMarked (marks : List Bool) (numbers : List ℕ) : Type 0 where
  pub distinct : IsDistinct numbers
  pub below : (j : ℕ) → IsAmong j numbers → j < length marks
  pub marked : (j : ℕ) → IsAmong j numbers → get_or marks j false ≡ true
  pub only : (j : ℕ) → get_or marks j false ≡ true → IsAmong j numbers

-- marks, and the numbers as the front of a list that has room for all
pub record IsKept (marks : List Bool) (list : List ℕ) (count : ℕ) : Type 0 where
  pub marked : IsMarked marks (take count list)
  pub within : count ≤ length list
  pub room : length list ≡ length marks
  pub small : length marks < 2 ^ 32

-- The list went on by numbers that have P, and has all that do.
pub record Adds (P : ℕ → Type 0) (old new : List ℕ) : Type 0 where
  pub more : List ℕ
  pub on : new ≡ old ++ more
  pub each : (j : ℕ) → IsAmong j more → P j
  pub all : (j : ℕ) → P j → IsAmong j new
