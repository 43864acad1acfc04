use Rattle.std.proofs.Common.{◌≡◌, ◌≤◌, ◌++◌, length, drop, reverse}
use Rattle.std.specs.Prelude.{map}
use Rattle.infer_scopes.proofs.bound.push_patterns.Given as goal

abbrev pub invariant-bindings : goal.invariant-bindings
invariant-bindings l = record { within : l.i ≤ length l.bindings; done : l.work.items ≡ l.fn.work.items ++ reverse (map (λ b. b.pat) (drop l.i l.bindings)) }

abbrev pub decreases-bindings : goal.decreases-bindings
decreases-bindings l = l.i
