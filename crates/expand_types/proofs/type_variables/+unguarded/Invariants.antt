use Rattle.std.proofs.Common.{◌≤◌, ◌+◌, ◌*◌}
use Rattle.sml_expansion.specs.TypeVariables.{unguarded}
use Rattle.expand_types.proofs.Steps.{Flows}
use Rattle.expand_types.proofs.type_variables.+unguarded.Given as goal

abbrev pub decreases-push_before_last : goal.decreases-push_before_last
decreases-push_before_last l = 2 * l.at

abbrev pub decreases-push_unguarded : goal.decreases-push_unguarded
decreases-push_unguarded l = 2 * l.at + 1

abbrev pub invariant-push_unguarded-loop-keys : goal.invariant-push_unguarded-loop-keys
invariant-push_unguarded-loop-keys l = (l.rest ≤ l.fn.at) × Flows l.parsed unguarded l.fn.at l.fn.keys.items l.rest l.keys.items

abbrev pub decreases-push_unguarded-loop-keys : goal.decreases-push_unguarded-loop-keys
decreases-push_unguarded-loop-keys l = l.rest
