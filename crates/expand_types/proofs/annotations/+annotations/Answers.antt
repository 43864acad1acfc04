use Rattle.std.proofs.Common.{◌≢◌, ◌++◌, ap, ◌∙◌, subst}
use Rattle.std.proofs.lemmas.Result.{IfOk-weaker}
use Rattle.sml_tree.specs.declared.tree_node.TreeNode.TheVariants as node
use Rattle.sml_expansion.specs.Scopes.{scope_of}
use Rattle.expand_types.proofs.AnnotationLemmas.{in_typed, in_other}
use Rattle.expand_types.proofs.annotations.+annotations.Goals as goal

pub returns-in_ok-alone : goal.returns-in_ok-alone
returns-in_ok-alone t c =
    let s = scope_of c.args.parsed.now.names c.args.bindings.now in
    IfOk-weaker c.joined.result _ _ (λ x is. in_typed c.args.parsed.now s c.args.at c.two-pat.result.0 c.two-pat.result.1 _ _ _ _ x.items c.deref.result.now c.in_ok-number.number c.in-TypedPat.ensures c.two-pat.ensures.parts c.in_ok-inner.ensures c.in_ok-number.ensures c.deref.ensures.value (is ∙ ap (λ q. q ++ c.deref.result.now) c.in_ok-alone.ensures)) c.joined.ensures

pub returns-in_default : goal.returns-in_default
returns-in_default t c =
    let s = scope_of c.args.parsed.now.names c.args.bindings.now in
    in_other c.args.parsed.now s c.args.at _ c.new.result.items (subst (λ q. q ≢ node.TypedPat) c.node.ensures c.in_default.not-TypedPat) c.new.ensures.items
