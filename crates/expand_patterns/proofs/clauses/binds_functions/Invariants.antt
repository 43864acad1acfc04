use Rattle.std.proofs.Common.{List}
use Rattle.sml_expansion.specs.declared.scope.Bound.{Bound}
use Rattle.sml_expansion.specs.declared.walk.Walk.{Walk}
use Rattle.sml_expansion.specs.Clauses.{binds_functions}
use Rattle.sml_expansion.specs.Sources.{IsAt}
use Rattle.sml_expansion.specs.Terms.{Term}
use Rattle.expand_patterns.specs.Expands.{Binds}
use Rattle.expand_patterns.proofs.clauses.binds_functions.Given as goal

abbrev pub invariant-loop-first : goal.invariant-loop-first
invariant-loop-first l =
    (t : Term) → IsAt l.parsed l.at t → (u : Term) × (IsAt l.parsed l.rest u × ((v : Walk) (d : List Bound) → Binds l.parsed.names (λ s. binds_functions s.names u) l.walk v l.bound.items d → Binds l.parsed.names (λ s. binds_functions s.names t) l.initial.walk v l.initial.bound.items d))

abbrev pub decreases-loop-first : goal.decreases-loop-first
decreases-loop-first l = l.rest
