use Rattle.std.proofs.Common.{ℕ, ◌+◌, ◌<◌, List, length, drop, get_or, add-one, subst, sym, drop-cons, drop_of_length-le}
use Rattle.std.specs.List.{AllByRecursion}
use Rattle.sml_tree.specs.declared.tree_node.TreeNode.{TreeNode}
use Rattle.expansion_laws.specs.Laws.{CharFits}
use Rattle.expansion_laws.proofs.bytes.chars_fit.Goals as goal

pub loop-node-init : goal.loop-node-init
loop-node-init c = λ h. h

-- one node more
step : (nodes : List TreeNode) (i : ℕ) (d : TreeNode) → i < length nodes → CharFits (get_or nodes i d) → (AllByRecursion CharFits (drop i nodes) → AllByRecursion CharFits nodes) → AllByRecursion CharFits (drop (i + 1) nodes) → AllByRecursion CharFits nodes
step nodes i d le c f h = f (subst (AllByRecursion CharFits) (sym (drop-cons nodes i d le)) (c, subst (λ j. AllByRecursion CharFits (drop j nodes)) (add-one i) h))

pub loop-node-preserved : goal.loop-node-preserved
loop-node-preserved c = λ h. step c.args.nodes.now c.loop-node.node-index _ c.loop-node-test.true c.char_fits.ensures c.loop-node.invariant h

pub returns : goal.returns
returns c = c.loop-node.invariant (subst (AllByRecursion CharFits) (sym (drop_of_length-le c.args.nodes.now c.loop-node-test.false)) tt)
