use Rattle.std.proofs.Common.{◌≡◌, ◌+◌, ◌≤◌}
use Rattle.sml_expansion.specs.Clauses.{patterns_in}
use Rattle.sml_expansion.specs.Sources.{IsAt}
use Rattle.sml_expansion.specs.Terms.{Term}
use Rattle.expand_patterns.proofs.heads.+patterns_in.Given as goal

abbrev pub decreases-patterns_in : goal.decreases-patterns_in
decreases-patterns_in l = l.at

abbrev pub invariant-loop-first : goal.invariant-loop-first
invariant-loop-first l = (l.rest ≤ l.at) × ((t : Term) → IsAt l.parsed l.at t → (u : Term) × (IsAt l.parsed l.rest u × (patterns_in t ≡ l.count + patterns_in u)))

abbrev pub decreases-loop-first : goal.decreases-loop-first
decreases-loop-first l = l.rest
