use Rattle.std.proofs.Common.{◌≡◌}
use Rattle.close_scopes.specs.Scopes.{bounds, looked_up}
use Rattle.close_scopes.proofs.scopes.Scopes.find.Given as goal

abbrev pub invariant-loop-link : goal.invariant-loop-link
invariant-loop-link l = looked_up (bounds l.self l.number) l.key ≡ looked_up (bounds l.self l.fn.scope.innermost) l.key

abbrev pub decreases-loop-link : goal.decreases-loop-link
decreases-loop-link l = l.number
