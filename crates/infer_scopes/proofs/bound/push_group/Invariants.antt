use Rattle.std.proofs.Common.{◌≡◌, ◌++◌, take}
use Rattle.std.specs.Prelude.{map}
use Rattle.infer_scopes.proofs.bound.push_group.Given as goal

abbrev pub invariant-bindings : goal.invariant-bindings
invariant-bindings l = l.found.items ≡ l.fn.found.items ++ map (λ b. b.name.0) (take l.binding-index l.bindings)
