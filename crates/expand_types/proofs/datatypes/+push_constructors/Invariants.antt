use Rattle.std.proofs.Common.{◌≤◌}
use Rattle.sml_expansion.specs.Bindings.{constructors}
use Rattle.sml_expansion.specs.Scopes.{scope_of}
use Rattle.expand_types.specs.Effects.{new_cons}
use Rattle.expand_types.proofs.DatatypeLemmas.{behind_them}
use Rattle.expand_types.proofs.SpineLemmas.{Left}
use Rattle.expand_types.proofs.datatypes.+push_constructors.Given as goal

abbrev pub decreases-push_constructors : goal.decreases-push_constructors
decreases-push_constructors l = l.at

abbrev pub invariant-loop-first : goal.invariant-loop-first
invariant-loop-first l = (l.rest ≤ l.fn.at) × Left l.parsed (λ k. constructors (scope_of l.parsed.names l.bindings)) behind_them 0 l.fn.at l.fn.made (new_cons l.fn.cons.items) 0 l.rest l.made (new_cons l.cons.items)

abbrev pub decreases-loop-first : goal.decreases-loop-first
decreases-loop-first l = l.rest
