use Rattle.std.proofs.Common.{◌≢◌, ℕ, List, refl, ap, ◌∙◌, subst}
use Rattle.sml_expansion.specs.Scopes.{scope_of}
use Rattle.sml_expansion.specs.Makings.{Runs}
use Rattle.sml_expansion.specs.TypeVariables.{only_params}
use Rattle.sml_expansion.specs.Bindings.{constructors, datatype_of}
use Rattle.sml_tree.specs.declared.tree_node.TreeNode.TheVariants as node
use Rattle.expand_types.specs.declared.datatypes.NewConstructor.{NewConstructor}
use Rattle.expand_types.specs.Effects.{new_cons, datatypes_shown, datatypes_behind}
use Rattle.expand_types.proofs.DatatypeLemmas.{binding_one, no_bindings}
use Rattle.expand_types.proofs.datatypes.push_datatype.Goals as goal

pub returns-in_ok-push-clause-done : goal.returns-in_ok-push-clause-done
returns-in_ok-push-clause-done c =
    let src = c.args.parsed.now in
    let s = scope_of src.names c.args.bindings.now in
    let before = datatypes_shown c.args.done.now in
    let shown = ap (λ (q : List (ℕ × ℕ)). datatypes_behind before (datatype_of src.names c.args.type_name c.ident-ident.result q (new_cons c.deref-in-DatBind-3.result.now))) c.deref-in-DatBind-2.ensures.value
    ∙ ap (λ (q : List NewConstructor). datatypes_behind before (datatype_of src.names c.args.type_name c.ident-ident.result c.in_ok-vars.vars.items (new_cons q))) c.deref-in-DatBind-3.ensures.value in
    binding_one src s c.args.type_name c.args.at c.three-vars.result.0 c.three-vars.result.1 c.three-vars.result.2 _ c.params.new.made c.constructors_under.new.made before (datatypes_shown c.push.new.self) c.ident-ident.result c.deref.result.now c.in_ok-vars.vars.items (new_cons c.in_ok-cons.cons.items) c.in-DatBind.ensures c.three-vars.ensures.parts c.ident-ident.ensures
    (λ t w. c.deref.ensures.value ∙ c.in_ok-named.ensures t w) c.in_ok-vars.ensures
    (λ t w. subst (λ (q : List (ℕ × ℕ)). Runs (constructors (only_params s q) t) c.params.new.made (new_cons c.in_ok-cons.cons.items) c.constructors_under.new.made) c.deref-in-DatBind.ensures.value (c.in_ok-cons.ensures.cons t w))
    (c.in_ok-push.ensures ∙ shown)

pub returns-in_default : goal.returns-in_default
returns-in_default c =
    let src = c.args.parsed.now in
    record { kept = refl; done = no_bindings src (scope_of src.names c.args.bindings.now) c.args.type_name c.args.at _ (datatypes_shown c.args.done.now) c.requires (subst (λ q. q ≢ node.DatBind) c.node.ensures c.in_default.not-DatBind) }
