use Rattle.std.proofs.Common.{◌≡◌, ◌≤◌}
use Rattle.sml_expansion.specs.Scopes.{scope_of}
use Rattle.sml_expansion.specs.Bindings.{exceptions}
use Rattle.expand_types.specs.Effects.{exceptions_so_far, exceptions_behind}
use Rattle.expand_types.proofs.SpineLemmas.{Left}
use Rattle.expand_types.proofs.exceptions.+push_exceptions.Given as goal

abbrev pub decreases-push_exceptions : goal.decreases-push_exceptions
decreases-push_exceptions l = l.at

abbrev pub invariant-loop-first : goal.invariant-loop-first
invariant-loop-first l = (l.rest ≤ l.fn.at) × (l.walk.bindings ≡ l.fn.walk.bindings) × Left l.parsed (λ k. exceptions (scope_of l.parsed.names l.fn.walk.bindings) l.place) exceptions_behind 0 l.fn.at l.fn.walk.made (exceptions_so_far l.fn.walk l.fn.done) 0 l.rest l.walk.made (exceptions_so_far l.walk l.done)

abbrev pub decreases-loop-first : goal.decreases-loop-first
decreases-loop-first l = l.rest
