use Rattle.std.proofs.Common.{◌≡◌, drop}
use Rattle.expand_patterns.proofs.Forced.{forced}
use Rattle.expand_patterns.proofs.force.put_in_force.Given as goal

abbrev pub invariant-loop-variable : goal.invariant-loop-variable
invariant-loop-variable l =
    (forced (drop l.variable-index l.bound) l.walk.bindings.values ≡ forced l.bound l.initial.walk.bindings.values) × (l.walk.bindings.types ≡ l.initial.walk.bindings.types) × (l.walk.bindings.tyvars ≡ l.initial.walk.bindings.tyvars)
    × (l.walk.made ≡ l.initial.walk.made) × (l.walk.marks ≡ l.initial.walk.marks)
