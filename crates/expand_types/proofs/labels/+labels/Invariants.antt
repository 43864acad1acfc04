use Rattle.std.proofs.Common.{◌≤◌, ◌+◌, ◌*◌}
use Rattle.sml_expansion.specs.Types.{labels}
use Rattle.expand_types.proofs.Steps.{Flows}
use Rattle.expand_types.proofs.labels.+labels.Given as goal

abbrev pub decreases-push_row : goal.decreases-push_row
decreases-push_row l = 2 * l.at

abbrev pub decreases-push_labels : goal.decreases-push_labels
decreases-push_labels l = 2 * l.at + 1

abbrev pub invariant-push_labels-loop-first : goal.invariant-push_labels-loop-first
invariant-push_labels-loop-first l = (l.rest ≤ l.fn.at) × Flows l.parsed (labels l.parsed.names) l.fn.at l.fn.labs.items l.rest l.labs.items

abbrev pub decreases-push_labels-loop-first : goal.decreases-push_labels-loop-first
decreases-push_labels-loop-first l = l.rest
