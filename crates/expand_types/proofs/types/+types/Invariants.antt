use Rattle.std.proofs.Common.{◌≤◌, ◌+◌, ◌*◌}
use Rattle.sml_expansion.specs.Scopes.{scope_of}
use Rattle.sml_expansion.specs.Types.{types}
use Rattle.expand_types.proofs.Steps.{Goes}
use Rattle.expand_types.proofs.types.+types.Given as goal

abbrev pub decreases-one_type : goal.decreases-one_type
decreases-one_type l = 2 * l.at

abbrev pub decreases-types : goal.decreases-types
decreases-types l = 2 * l.at + 1

abbrev pub invariant-types-loop-first : goal.invariant-types-loop-first
invariant-types-loop-first l = (l.rest ≤ l.fn.at) × Goes l.parsed (types (scope_of l.parsed.names l.bindings)) l.fn.at l.fn.made l.numbers.items l.rest l.made

abbrev pub decreases-types-loop-first : goal.decreases-types-loop-first
decreases-types-loop-first l = l.rest
