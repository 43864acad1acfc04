use Rattle.std.proofs.Common.{◌≡◌, bytes_eq, drop}
use Rattle.std.specs.List.{position_from}
use Rattle.sml_expansion.proofs.long_identifiers.number_of.Given as goal

abbrev pub invariant-loop-key : goal.invariant-loop-key
invariant-loop-key l = position_from (λ t. bytes_eq t l.text) l.key (drop l.key l.names) ≡ position_from (λ t. bytes_eq t l.text) 0 l.names
