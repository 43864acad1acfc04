use Rattle.std.proofs.Common.{◌≡◌, ◌++◌, map, drop}
use Rattle.sml_tree.proofs.free.names_from.Given as goal

abbrev pub invariant-loop-number : goal.invariant-loop-number
invariant-loop-number l = map (λ x. x.0) l.names.items ++ drop l.number-index l.numbers ≡ l.numbers
