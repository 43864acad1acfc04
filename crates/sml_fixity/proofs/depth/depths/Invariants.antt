use Rattle.std.proofs.Common.{◌≡◌, ◌≤◌, ◌*◌, [], drop, reverse}
use Rattle.sml_tree.specs.Depth.{depths, greatest}
use Rattle.sml_fixity.proofs.depth.depths.Given as goal

abbrev pub invariant-loop-node : goal.invariant-loop-node
invariant-loop-node l = record {
  same : depths (reverse l.stack.items) (drop l.node-index l.nodes) ≡ depths [] l.nodes;
  low : greatest l.stack.items ≤ 2 * l.node-index;
}
