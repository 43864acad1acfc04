use Rattle.std.proofs.Common.{rules, ◌≤◌, length}
use Rattle.sml_tree.specs.declared.bare.RecBinding.{RecBinding}
use Rattle.infer_state.specs.Variables.{node_var, name_var}
use Rattle.infer_nodes.proofs.Ruled.{one_binding, all_bindings}
use Rattle.infer_nodes.proofs.values.rec_pairs.Goals as goal

pub bindings-preserved : goal.bindings-preserved
bindings-preserved c =
    one_binding c.args.types.now (λ (b : RecBinding). name_var c.args.bare.now b.name.0) (λ (b : RecBinding). node_var c.args.bare.now b.right) c.args.bindings.now c.bindings.binding-index _ c.in_ok-left.left c.in_ok-right.right c.bindings.pairs c.push.new.self c.bindings-test.true c.in_ok-left.ensures c.in_ok-right.ensures c.in_ok-push.ensures.ok c.bindings.invariant

pub returns : goal.returns
returns c =
    let end : length c.args.bindings.now ≤ c.bindings.binding-index = search rules in
    all_bindings c.args.types.now (λ (b : RecBinding). name_var c.args.bare.now b.name.0) (λ (b : RecBinding). node_var c.args.bare.now b.right) c.args.bindings.now c.bindings.binding-index c.bindings.pairs end c.bindings.invariant
