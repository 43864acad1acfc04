use Rattle.std.proofs.Common.{◌≡◌}
use Rattle.sml_expansion.specs.Terms.{Term}
use Rattle.sml_expansion.specs.Sources.{IsAt}
use Rattle.sml_expansion.specs.Clauses.{first_clause}
use Rattle.expand_patterns.proofs.heads.first_clause.Given as goal

abbrev pub invariant-loop-first : goal.invariant-loop-first
invariant-loop-first l = (t : Term) → IsAt l.parsed l.at t → (u : Term) × (IsAt l.parsed l.first u × (first_clause t ≡ first_clause u))

abbrev pub decreases-loop-first : goal.decreases-loop-first
decreases-loop-first l = l.first
