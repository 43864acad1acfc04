use Rattle.std.proofs.Common.{◌≡◌, ◌≤◌}
use Rattle.sml_expansion.specs.Bindings.{datatypes}
use Rattle.sml_expansion.specs.Scopes.{scope_of}
use Rattle.expand_types.specs.Effects.{datatypes_shown, datatypes_behind}
use Rattle.expand_types.proofs.SpineLemmas.{Left}
use Rattle.expand_types.proofs.datatypes.+push_datatypes.Given as goal

abbrev pub decreases-push_datatypes : goal.decreases-push_datatypes
decreases-push_datatypes l = l.at

abbrev pub invariant-loop-first : goal.invariant-loop-first
invariant-loop-first l = (l.rest ≤ l.fn.at) × (l.bindings ≡ l.fn.bindings) × Left l.parsed (datatypes (scope_of l.parsed.names l.fn.bindings)) datatypes_behind l.fn.first_name l.fn.at l.fn.made (datatypes_shown l.fn.done) l.type_name l.rest l.made (datatypes_shown l.done)

abbrev pub decreases-loop-first : goal.decreases-loop-first
decreases-loop-first l = l.rest
