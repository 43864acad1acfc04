use Rattle.std.proofs.Common.{◌≢◌, subst}
use Rattle.sml_tree.specs.declared.tree_node.TreeNode.TheVariants as node
use Rattle.expand_types.proofs.DatatypeLemmas.{name_one, no_names}
use Rattle.expand_types.proofs.datatypes.push_type_name.Goals as goal

pub returns-in_ok-push : goal.returns-in_ok-push
returns-in_ok-push c =
    let src = c.args.parsed.now in
    name_one src src.names c.args.at c.three-constructor.result.0 c.three-constructor.result.1 c.three-constructor.result.2 _ _ c.args.news.now.items _ c.ident-ident.result c.in_ok-number.number c.in-DatBind.ensures c.three-constructor.ensures.parts c.ident-ident.ensures c.in_ok-number.ensures c.in_ok-push.ensures.items

pub returns-in_default : goal.returns-in_default
returns-in_default c =
    let src = c.args.parsed.now in
    no_names src src.names c.args.at _ _ c.requires (subst (λ q. q ≢ node.DatBind) c.node.ensures c.in_default.not-DatBind)
