use Rattle.std.proofs.Common.{◌≤◌, ◌+◌, ◌*◌}
use Rattle.sml_expansion.specs.TypeVariables.{tyvars}
use Rattle.expand_types.proofs.Steps.{Flows}
use Rattle.expand_types.proofs.type_variables.+tyvars.Given as goal

abbrev pub decreases-push_sequence : goal.decreases-push_sequence
decreases-push_sequence l = 2 * l.at

abbrev pub decreases-push_tyvars : goal.decreases-push_tyvars
decreases-push_tyvars l = 2 * l.at + 1

abbrev pub invariant-push_tyvars-loop-first : goal.invariant-push_tyvars-loop-first
invariant-push_tyvars-loop-first l = (l.rest ≤ l.fn.at) × Flows l.parsed (tyvars l.parsed.names) l.fn.at l.fn.idents.items l.rest l.idents.items

abbrev pub decreases-push_tyvars-loop-first : goal.decreases-push_tyvars-loop-first
decreases-push_tyvars-loop-first l = l.rest
