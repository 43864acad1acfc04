use Rattle.std.proofs.Common.{◌≡◌, ℕ, length}
use Rattle.convert_decide.specs.Decide.{item_in}
use Rattle.convert_decide.proofs.decide.filled.Given as goal

abbrev pub invariant-loop : goal.invariant-loop
invariant-loop g l = record { many : length l.row ≡ l.counter; all : (j : ℕ) → item_in l.item l.row j ≡ l.item }
