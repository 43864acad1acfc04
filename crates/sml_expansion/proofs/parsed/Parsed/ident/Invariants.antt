use Rattle.std.proofs.Common.{◌≡◌}
use Rattle.sml_expansion.specs.Terms.{Term}
use Rattle.sml_expansion.specs.Sources.{IsAt}
use Rattle.sml_expansion.specs.Scopes.{ident}
use Rattle.sml_expansion.proofs.parsed.Parsed.ident.Given as goal

abbrev pub invariant-loop-at : goal.invariant-loop-at
invariant-loop-at l = (t : Term) → IsAt l.self l.fn.at t → (u : Term) × (IsAt l.self l.at u × (ident l.self.names t ≡ ident l.self.names u))

abbrev pub decreases-loop-at : goal.decreases-loop-at
decreases-loop-at l = l.at
