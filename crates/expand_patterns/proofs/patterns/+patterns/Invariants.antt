use Rattle.std.proofs.Common.{ℕ, ◌+◌, ◌*◌, ◌≤◌, List}
use Rattle.std.specs.Prelude.{max}
use Rattle.sml_expansion.specs.declared.scope.Bound.{Bound}
use Rattle.sml_expansion.specs.declared.walk.Walk.{Walk}
use Rattle.sml_expansion.specs.Patterns.{patterns}
use Rattle.sml_expansion.specs.Sources.{IsAt}
use Rattle.sml_expansion.specs.Terms.{Term}
use Rattle.expand_patterns.specs.Expands.{Expands}
use Rattle.expand_patterns.specs.Opens.{Opens}
use Rattle.expand_patterns.proofs.patterns.+patterns.Given as goal

abbrev pub decreases-patterns : goal.decreases-patterns
decreases-patterns l = 6 * l.at + 2

abbrev pub decreases-items : goal.decreases-items
decreases-items l = 6 * l.at + 2

abbrev pub decreases-pattern : goal.decreases-pattern
decreases-pattern l = 6 * l.at + 1

abbrev pub decreases-inside : goal.decreases-inside
decreases-inside l = 6 * l.at + 3

abbrev pub decreases-list : goal.decreases-list
decreases-list l = 6 * l.at + 3

abbrev pub decreases-rows : goal.decreases-rows
decreases-rows l = 6 * l.at + 3

abbrev pub decreases-both : goal.decreases-both
decreases-both l = 6 * max l.parts.0 l.parts.1 + 3

abbrev pub decreases-tuple : goal.decreases-tuple
decreases-tuple l = 6 * max l.parts.0 l.parts.1 + 4

abbrev pub decreases-applied : goal.decreases-applied
decreases-applied l = 6 * l.parts.1 + 3

abbrev pub decreases-infix : goal.decreases-infix
decreases-infix l = 6 * max l.parts.0 l.parts.2 + 5

abbrev pub decreases-typed : goal.decreases-typed
decreases-typed l = 6 * l.parts.0 + 3

abbrev pub decreases-layered : goal.decreases-layered
decreases-layered l = 6 * l.parts.1 + 3

abbrev pub decreases-typed_layered : goal.decreases-typed_layered
decreases-typed_layered l = 6 * l.parts.2 + 4

abbrev pub decreases-patterns-loop-first : goal.decreases-patterns-loop-first
decreases-patterns-loop-first l = l.rest

abbrev pub invariant-patterns-loop-first : goal.invariant-patterns-loop-first
invariant-patterns-loop-first l =
    (l.rest ≤ l.at) × ((t : Term) → IsAt l.parsed l.at t → (u : Term) × (IsAt l.parsed l.rest u × ((n : ℕ) (v : Walk) (d : List Bound) → Expands l.parsed.names (λ s. patterns s u) n l.walk v l.bound.items d → Expands l.parsed.names (λ s. patterns s t) (l.trees + n) l.initial.walk v l.initial.bound.items d)))

abbrev pub decreases-items-loop-first : goal.decreases-items-loop-first
decreases-items-loop-first l = l.rest

abbrev pub invariant-items-loop-first : goal.invariant-items-loop-first
invariant-items-loop-first l =
    (l.rest ≤ l.at) × ((t : Term) → IsAt l.parsed l.at t → (u : Term) × (IsAt l.parsed l.rest u × ((n : ℕ) (v : Walk) (d : List Bound) → Opens l.parsed.names (λ s. patterns s u) n l.walk v l.bound.items d → Opens l.parsed.names (λ s. patterns s t) (l.trees + n) l.initial.walk v l.initial.bound.items d)))
