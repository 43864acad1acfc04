use Rattle.std.proofs.Common.{◌≡◌, take}
use Rattle.std.specs.List.{AllByRecursion}
use Rattle.infer_state.specs.Variables.{node_var, name_var}
use Rattle.infer_nodes.specs.Posed.{Says}
use Rattle.infer_nodes.proofs.values.val_pairs.Given as goal

abbrev pub invariant-bindings : goal.invariant-bindings
invariant-bindings l =
    Says l.types (λ f. AllByRecursion (λ b. f (node_var l.bare b.right) ≡ f (node_var l.bare b.pat)) (take l.binding-index l.bindings)) l.pairs
