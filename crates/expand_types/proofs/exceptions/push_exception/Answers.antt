use Rattle.std.proofs.Common.{◌≡◌, ◌≢◌, refl, subst, None, Some}
use Rattle.sml_expansion.specs.Scopes.{scope_of}
use Rattle.sml_tree.specs.declared.tree_node.TreeNode.TheVariants as node
use Rattle.sml_expansion.specs.Bindings.{exception_of, renaming_of}
use Rattle.expand_types.specs.Effects.{exceptions_so_far, exceptions_behind}
use Rattle.expand_types.proofs.Steps.{on_both}
use Rattle.expand_types.proofs.ExceptionLemmas.{does_new, does_of, does_is, does_none}
use Rattle.expand_types.proofs.exceptions.push_exception.Goals as goal

pub returns-in_ok-name-in-ExBind-clause-done : goal.returns-in_ok-name-in-ExBind-clause-done
returns-in_ok-name-in-ExBind-clause-done c =
    let src = c.args.parsed.now in
    let s = scope_of src.names c.args.walk.now.bindings in
    on_both {P = c.declare.new.walk.made ≡ c.new_name.new.self} {Q = exceptions_so_far c.declare.new.walk c.declare.new.done ≡ exceptions_behind (exceptions_so_far c.args.walk.now c.args.done.now) (exception_of c.args.place c.ident-ident.result c.in_ok-name-in-ExBind.name None)} c.declare.result (λ last is. does_new src s c.args.place c.args.at c.one.result c.args.walk.now.made c.new_name.new.self c.declare.new.walk.made (exceptions_so_far c.args.walk.now c.args.done.now) (exceptions_so_far c.declare.new.walk c.declare.new.done) c.ident-ident.result c.text.result.now c.in_ok-name-in-ExBind.name c.in-ExBind.ensures c.one.ensures.part c.ident-ident.ensures c.text.ensures c.in_ok-name-in-ExBind.ensures last is) c.declare.ensures.made c.declare.ensures.done

pub returns-in_ok-ty-in-ExBindOf-clause-done : goal.returns-in_ok-ty-in-ExBindOf-clause-done
returns-in_ok-ty-in-ExBindOf-clause-done c =
    let src = c.args.parsed.now in
    let s = scope_of src.names c.args.walk.now.bindings in
    let d = c.declare-in-ExBindOf in
    on_both {P = d.new.walk.made ≡ c.type_of.new.made} {Q = exceptions_so_far d.new.walk d.new.done ≡ exceptions_behind (exceptions_so_far c.args.walk.now c.args.done.now) (exception_of c.args.place c.ident-ident-in-ExBindOf.result c.in_ok-name-in-ExBindOf.name (Some c.in_ok-ty-in-ExBindOf.ty))} d.result (λ last is. does_of src s c.args.place c.args.at c.two-constructor.result.0 c.two-constructor.result.1 c.args.walk.now.made c.new_name-in-ExBindOf.new.self c.type_of.new.made d.new.walk.made (exceptions_so_far c.args.walk.now c.args.done.now) (exceptions_so_far d.new.walk d.new.done) c.ident-ident-in-ExBindOf.result c.text-in-ExBindOf.result.now c.in_ok-name-in-ExBindOf.name c.in_ok-ty-in-ExBindOf.ty c.in-ExBindOf.ensures c.two-constructor.ensures.parts c.ident-ident-in-ExBindOf.ensures c.text-in-ExBindOf.ensures c.in_ok-name-in-ExBindOf.ensures c.in_ok-ty-in-ExBindOf.ensures last is) d.ensures.made d.ensures.done

pub returns-in_ok-name-in-ExBindIs-clause-done : goal.returns-in_ok-name-in-ExBindIs-clause-done
returns-in_ok-name-in-ExBindIs-clause-done c =
    let src = c.args.parsed.now in
    let s = scope_of src.names c.args.walk.now.bindings in
    on_both {P = c.rename.new.walk.made ≡ c.renamed-meaning.new.made} {Q = exceptions_so_far c.rename.new.walk c.rename.new.done ≡ exceptions_behind (exceptions_so_far c.args.walk.now c.args.done.now) (renaming_of c.args.place c.ident-ident-in-ExBindIs.result c.in_ok-name-in-ExBindIs.name c.renamed-meaning.result)} c.rename.result (λ last is. does_is src s c.args.place c.args.at c.two-constructor-in-ExBindIs.result.0 c.two-constructor-in-ExBindIs.result.1 c.args.walk.now.made c.new_name-in-ExBindIs.new.self c.renamed-meaning.new.made c.rename.new.walk.made (exceptions_so_far c.args.walk.now c.args.done.now) (exceptions_so_far c.rename.new.walk c.rename.new.done) c.ident-ident-in-ExBindIs.result c.ident.result c.text-in-ExBindIs.result.now c.in_ok-name-in-ExBindIs.name c.renamed-meaning.result c.in-ExBindIs.ensures c.two-constructor-in-ExBindIs.ensures.parts c.ident-ident-in-ExBindIs.ensures c.ident.ensures c.text-in-ExBindIs.ensures c.in_ok-name-in-ExBindIs.ensures c.renamed-meaning.ensures.meaning c.renamed-meaning.ensures.made last is) c.rename.ensures.made c.rename.ensures.done

pub returns-in_default : goal.returns-in_default
returns-in_default c =
    let src = c.args.parsed.now in
    let d = c.in_default in
    record { kept = refl; done = does_none src (scope_of src.names c.args.walk.now.bindings) c.args.place c.args.at _ _ c.requires (subst (λ q. q ≢ node.ExBind) c.node.ensures d.not-ExBind) (subst (λ q. q ≢ node.ExBindOf) c.node.ensures d.not-ExBindOf) (subst (λ q. q ≢ node.ExBindIs) c.node.ensures d.not-ExBindIs) }
