use Rattle.std.proofs.Common.{◌≡◌, ℕ, None, length}
use Rattle.std.specs.Prelude.{get_or}
use Rattle.cps_contract.proofs.walk.none_placed.Given as goal

abbrev pub invariant-loop : goal.invariant-loop
invariant-loop l = record {
  count : length l.placed.items ≡ l.counter;
  each : (x : ℕ) → get_or l.placed.items x None ≡ None;
}
