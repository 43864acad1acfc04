use Rattle.std.proofs.Common.{◌≢◌, ℕ, List, refl, ap, ◌∙◌, subst}
use Rattle.sml_expansion.specs.Scopes.{scope_of}
use Rattle.sml_expansion.specs.Makings.{Runs}
use Rattle.sml_expansion.specs.Types.{type_of}
use Rattle.sml_expansion.specs.TypeVariables.{only_params, numbers_of}
use Rattle.sml_tree.specs.declared.tree_node.TreeNode.TheVariants as node
use Rattle.expand_types.proofs.BindingLemmas.{does_one, does_none}
use Rattle.expand_types.proofs.type_declarations.push_type_binding.Goals as goal

pub returns-in_ok-push-clause-done : goal.returns-in_ok-push-clause-done
returns-in_ok-push-clause-done c =
    let src = c.args.parsed.now in
    let s = scope_of src.names c.args.bindings.now in
    does_one src s c.args.at c.three-vars.result.0 c.three-vars.result.1 c.three-vars.result.2 _ c.params.new.made c.type_under.new.made _ _ _ c.ident-ident.result c.deref.result.now c.in_ok-vars.vars.items c.in_ok-ty.ty c.in_ok-number.number c.in_ok-params.params c.in-TypBind.ensures c.three-vars.ensures.parts c.ident-ident.ensures
    (λ t w. c.deref.ensures.value ∙ c.in_ok-named.ensures t w) c.in_ok-vars.ensures
    (λ t w. subst (λ (q : List (ℕ × ℕ)). Runs (type_of (only_params s q) t) c.params.new.made c.in_ok-ty.ty c.type_under.new.made) c.deref-in-TypBind.ensures.value (c.in_ok-ty.ensures.ty t w))
    c.in_ok-number.ensures (c.in_ok-params.ensures ∙ ap numbers_of c.deref-in-TypBind-2.ensures.value) c.in_ok-push.ensures

pub returns-in_default : goal.returns-in_default
returns-in_default c =
    let src = c.args.parsed.now in
    record { kept = refl; done = does_none src (scope_of src.names c.args.bindings.now) c.args.at _ _ c.requires (subst (λ q. q ≢ node.TypBind) c.node.ensures c.in_default.not-TypBind) }
