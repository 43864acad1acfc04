use Rattle.std.proofs.Common.{◌≡◌, bytes_eq, drop}
use Rattle.std.specs.List.{position_from}
use Rattle.sml_fixity.proofs.starting.position.Given as goal

abbrev pub invariant-loop-i : goal.invariant-loop-i
invariant-loop-i l = position_from (λ t. bytes_eq t l.text) l.i (drop l.i l.names) ≡ position_from (λ t. bytes_eq t l.text) 0 l.names
