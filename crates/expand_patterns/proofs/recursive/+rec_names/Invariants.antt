use Rattle.std.proofs.Common.{◌≤◌, List}
use Rattle.sml_expansion.specs.declared.scope.Bound.{Bound}
use Rattle.sml_expansion.specs.declared.walk.Walk.{Walk}
use Rattle.sml_expansion.specs.Bindings.{rec_names}
use Rattle.sml_expansion.specs.Sources.{IsAt}
use Rattle.sml_expansion.specs.Terms.{Term}
use Rattle.expand_patterns.specs.Expands.{Binds}
use Rattle.expand_patterns.proofs.recursive.+rec_names.Given as goal

abbrev pub decreases-rec_names : goal.decreases-rec_names
decreases-rec_names l = l.at

abbrev pub invariant-loop-behind : goal.invariant-loop-behind
invariant-loop-behind l =
    (l.rest ≤ l.at) × ((t : Term) → IsAt l.parsed l.at t → (u : Term) × (IsAt l.parsed l.rest u × ((v : Walk) (d : List Bound) → Binds l.parsed.names (λ s. rec_names s l.behind u) l.walk v l.bound.items d → Binds l.parsed.names (λ s. rec_names s l.fn.inside t) l.initial.walk v l.initial.bound.items d)))

abbrev pub decreases-loop-behind : goal.decreases-loop-behind
decreases-loop-behind l = l.rest
