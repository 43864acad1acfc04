use Rattle.std.proofs.Common.{◌≢◌, subst}
use Rattle.std.proofs.lemmas.Result.{on_ok_weaker}
use Rattle.sml_expansion.specs.Scopes.{scope_of}
use Rattle.sml_tree.specs.declared.tree_node.TreeNode.TheVariants as node
use Rattle.expand_types.specs.Effects.{new_cons}
use Rattle.expand_types.proofs.DatatypeLemmas.{con_of, no_cons}
use Rattle.expand_types.proofs.datatypes.push_constructor.Goals as goal

pub returns-in_ok-ty-in-ConBindOf : goal.returns-in_ok-ty-in-ConBindOf
returns-in_ok-ty-in-ConBindOf c =
    let src = c.args.parsed.now in
    let d = c.push_new-in-ConBindOf in
    on_ok_weaker d.result (λ h. con_of src (scope_of src.names c.args.bindings.now) c.args.at c.two-constructor.result.0 c.two-constructor.result.1 c.args.made.now c.type_of.new.made (new_cons c.args.cons.now.items) (new_cons d.new.cons.items) c.ident-ident-in-ConBindOf.result c.in_ok-ty-in-ConBindOf.ty c.in-ConBindOf.ensures c.two-constructor.ensures.parts c.ident-ident-in-ConBindOf.ensures c.in_ok-ty-in-ConBindOf.ensures h) d.ensures

pub returns-in_default : goal.returns-in_default
returns-in_default c =
    let src = c.args.parsed.now in
    let d = c.in_default in
    no_cons src (scope_of src.names c.args.bindings.now) c.args.at _ (new_cons c.args.cons.now.items) c.requires (subst (λ q. q ≢ node.ConBind) c.node.ensures d.not-ConBind) (subst (λ q. q ≢ node.ConBindOf) c.node.ensures d.not-ConBindOf)
