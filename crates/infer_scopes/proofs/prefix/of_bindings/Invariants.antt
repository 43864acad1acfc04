use Rattle.std.proofs.Common.{◌≡◌, [], ◌∷◌, take}
use Rattle.std.specs.Prelude.{flat_map}
use Rattle.infer_scopes.proofs.prefix.of_bindings.Given as goal

abbrev pub invariant-bindings : goal.invariant-bindings
invariant-bindings l = l.parts.items ≡ flat_map (λ b. b.pat ∷ b.right ∷ []) (take l.binding-index l.bindings)
