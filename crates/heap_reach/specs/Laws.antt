-- Laws of counts.
use Rattle.std.specs.Prelude.{◌≡◌, ℕ, List}
use Rattle.rv_machine.specs.State.{State}
use Rattle.rv_run.specs.Counted.{IsCount}

-- two counts of one heap from the same roots are equal
abbrev pub CountsAreOne : ℕ → ℕ → State → List ℕ → Type 0
CountsAreOne arena words s roots = (n m blocks many : ℕ) → IsCount arena words s roots n blocks → IsCount arena words s roots m many → (n ≡ m) × (blocks ≡ many)
