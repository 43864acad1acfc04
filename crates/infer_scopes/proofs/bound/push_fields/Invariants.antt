use Rattle.std.proofs.Common.{◌≡◌, ◌≤◌, ◌++◌, length, drop, reverse}
use Rattle.std.specs.Prelude.{map}
use Rattle.infer_scopes.proofs.bound.push_fields.Given as goal

abbrev pub invariant-fields : goal.invariant-fields
invariant-fields l = record { within : l.i ≤ length l.fields; done : l.work.items ≡ l.fn.work.items ++ reverse (map (λ f. f.node) (drop l.i l.fields)) }

abbrev pub decreases-fields : goal.decreases-fields
decreases-fields l = l.i
