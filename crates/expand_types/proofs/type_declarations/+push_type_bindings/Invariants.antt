use Rattle.std.proofs.Common.{◌≡◌, ◌≤◌}
use Rattle.sml_expansion.specs.Scopes.{scope_of}
use Rattle.sml_expansion.specs.Bindings.{type_bindings}
use Rattle.expand_types.specs.Effects.{types_shown, types_behind}
use Rattle.expand_types.proofs.SpineLemmas.{Left}
use Rattle.expand_types.proofs.type_declarations.+push_type_bindings.Given as goal

abbrev pub decreases-push_type_bindings : goal.decreases-push_type_bindings
decreases-push_type_bindings l = l.at

abbrev pub invariant-loop-first : goal.invariant-loop-first
invariant-loop-first l = (l.rest ≤ l.fn.at) × (l.bindings ≡ l.fn.bindings) × Left l.parsed (λ k. type_bindings (scope_of l.parsed.names l.fn.bindings)) types_behind 0 l.fn.at l.fn.made (types_shown l.fn.done) 0 l.rest l.made (types_shown l.done)

abbrev pub decreases-loop-first : goal.decreases-loop-first
decreases-loop-first l = l.rest
