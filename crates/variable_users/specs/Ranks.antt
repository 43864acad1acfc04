-- The ranks of the points of functions, in order.
use Rattle.std.specs.Prelude.{◌≡◌, ℕ, nat_lt, List, count_by}
use Rattle.std.specs.List.Sorted.{IsNonDecreasing}
use Rattle.sml_tree.specs.Order.{rank}
use Rattle.cps_ir.specs.Slim.{Layout}

pub record AreRanks (all : List Layout) (ranks : List ℕ) : Type 0 where
  pub sorted : IsNonDecreasing ranks
  -- as many below each number
  pub counts : (r : ℕ) → count_by (λ q. nat_lt q r) ranks ≡ count_by (λ l. nat_lt (rank l.point) r) all
