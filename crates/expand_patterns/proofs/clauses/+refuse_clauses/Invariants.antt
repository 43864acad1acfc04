use Rattle.std.proofs.Common.{◌≡◌, ◌≤◌}
use Rattle.sml_expansion.specs.declared.walk.Walk.{Walk}
use Rattle.sml_expansion.specs.Clauses.{clause_refusals}
use Rattle.sml_expansion.specs.Makings.{breaks}
use Rattle.sml_expansion.specs.Sources.{IsAt}
use Rattle.sml_expansion.specs.Terms.{Term}
use Rattle.expand_patterns.proofs.clauses.+refuse_clauses.Given as goal

abbrev pub decreases-refuse_clauses : goal.decreases-refuse_clauses
decreases-refuse_clauses l = l.at

abbrev pub invariant-loop-first : goal.invariant-loop-first
invariant-loop-first l =
    (l.rest ≤ l.at) × ((t : Term) → IsAt l.parsed l.at t → (u : Term) × (IsAt l.parsed l.rest u × ((v : Walk) → v ≡ record l.walk { made = (breaks (clause_refusals l.parsed.names l.function l.count u) l.walk.made).1 } → v ≡ record l.initial.walk { made = (breaks (clause_refusals l.parsed.names l.function l.count t) l.initial.walk.made).1 })))

abbrev pub decreases-loop-first : goal.decreases-loop-first
decreases-loop-first l = l.rest
