use Rattle.std.proofs.Common.{◌≡◌, ◌++◌, reverse, take}
use Rattle.expand_types.proofs.type_variables.in_scope.Given as goal

abbrev pub invariant-loop-key : goal.invariant-loop-key
invariant-loop-key l = l.bindings ≡ record l.fn.bindings { tyvars = reverse (take l.key-index l.vars) ++ l.fn.bindings.tyvars }
