use Rattle.std.proofs.Common.{◌≡◌, ◌++◌, reverse, take}
use Rattle.expand_types.proofs.type_declarations.bind_types.Given as goal

abbrev pub invariant-loop-key : goal.invariant-loop-key
invariant-loop-key l = l.bindings ≡ record l.fn.bindings { types = reverse (take l.key-index l.types) ++ l.fn.bindings.types }
