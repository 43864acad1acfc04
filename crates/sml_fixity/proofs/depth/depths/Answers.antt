use Rattle.std.proofs.Common.{rules, ◌<◌, ◌^◌, get_or, length}
use Rattle.sml_tree.specs.declared.tree_node.TreeNode.TheVariants as node
use Rattle.sml_fixity.proofs.NodeLemmas.{depths_next, depth_low, parts_low, same_parts}
use Rattle.sml_fixity.proofs.depth.depths.Goals as goal

pub depth_of-depth-requires : goal.depth_of-depth-requires
depth_of-depth-requires c =
    let short : length c.args.nodes.now < 2 ^ 63 = search rules in
    parts_low c.deref.result.now c.loop-node.stack.items c.saturating_sub-from.result c.loop-node.node-index (length c.args.nodes.now) c.deref.ensures.value c.loop-node.invariant.low c.loop-node-test.true short

pub loop-node-preserved : goal.loop-node-preserved
loop-node-preserved c =
    let is = same_parts c.deref.result.now c.loop-node.stack.items c.saturating_sub-from.result c.depth_of-depth.result (get_or c.args.nodes.now c.loop-node.node-index node.Val) c.deref.ensures.value c.depth_of-depth.ensures in
    record {
      same = depths_next c.loop-node.node-index c.saturating_sub-from.result _ _ c.depth_of-depth.result c.loop-node.stack.items c.truncate.new.self.items c.push.new.self.items _ c.args.nodes.now node.Val c.loop-node-test.true is c.truncate.ensures.items c.saturating_sub-from.ensures (search rules) c.parts.ensures c.in_ok-push.ensures.items c.loop-node.invariant.same;
      low = depth_low c.loop-node.node-index c.saturating_sub-from.result c.depth_of-depth.result c.loop-node.stack.items c.truncate.new.self.items c.push.new.self.items (get_or c.args.nodes.now c.loop-node.node-index node.Val) is c.truncate.ensures.items c.in_ok-push.ensures.items c.loop-node.invariant.low;
    }
