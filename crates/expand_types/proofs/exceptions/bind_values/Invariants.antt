use Rattle.std.proofs.Common.{◌≡◌, ◌++◌, reverse, take}
use Rattle.expand_types.proofs.exceptions.bind_values.Given as goal

abbrev pub invariant-loop-key : goal.invariant-loop-key
invariant-loop-key l = l.bindings ≡ record l.fn.bindings { values = reverse (take l.key-index l.values) ++ l.fn.bindings.values }
