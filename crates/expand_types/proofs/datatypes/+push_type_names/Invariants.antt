use Rattle.std.proofs.Common.{◌≤◌}
use Rattle.sml_expansion.specs.Bindings.{new_datatypes}
use Rattle.expand_types.proofs.DatatypeLemmas.{behind_them}
use Rattle.expand_types.proofs.SpineLemmas.{Left}
use Rattle.expand_types.proofs.datatypes.+push_type_names.Given as goal

abbrev pub decreases-push_type_names : goal.decreases-push_type_names
decreases-push_type_names l = l.at

abbrev pub invariant-loop-first : goal.invariant-loop-first
invariant-loop-first l = (l.rest ≤ l.fn.at) × Left l.parsed (λ k. new_datatypes l.parsed.names) behind_them 0 l.fn.at l.fn.made l.fn.news.items 0 l.rest l.made l.news.items

abbrev pub decreases-loop-first : goal.decreases-loop-first
decreases-loop-first l = l.rest
