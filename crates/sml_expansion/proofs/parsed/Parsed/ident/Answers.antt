use Rattle.std.proofs.Common.{rules, ◌≢◌, sym, ◌∙◌}
use Rattle.sml_tree.specs.declared.tree_node.TreeNode.TheVariants as node
use Rattle.sml_expansion.proofs.Shapes.{ident_is}
use Rattle.sml_expansion.proofs.parsed.Parsed.ident.Goals as goal

pub returns : goal.returns
returns c t h =
    let u = c.loop-at.invariant t h in
    let other : c.node-node.result ≢ node.Op = search rules in
    sym (u.1.1 ∙ ident_is c.args.self.now c.loop-at.at u.0 c.node-node.result _ _ _ u.1.0 c.node-node.ensures other c.key_of.ensures c.is_barred.ensures (c.place-place.ensures u.0 u.1.0))
