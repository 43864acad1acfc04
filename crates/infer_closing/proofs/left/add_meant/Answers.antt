use Rattle.std.proofs.Common.{List, ◌++◌, sym, ap, ◌∙◌}
use Rattle.sml_types.specs.declared.types.TyVar.{TyVar}
use Rattle.infer_closing.proofs.LeftFacts.{bound_gets, free_gets}
use Rattle.infer_closing.proofs.left.add_meant.Goals as goal

pub variables-requires-clause-here : goal.variables-requires-clause-here
variables-requires-clause-here c = c.requires.within c.args.var.num c.in-Some.ty (sym c.bound_to.ensures ∙ c.in-Some.is)

pub returns-in_ok-add_all-in-Some : goal.returns-in_ok-add_all-in-Some
returns-in_ok-add_all-in-Some c =
    let u = c.args.unknowns.now in
    bound_gets u.types u.subst.bound c.requires c.args.var c.in-Some.ty c.in_ok-more-in-Some.more.items c.args.found.now c.add_all.new.vars (sym c.bound_to.ensures ∙ c.in-Some.is) c.in_ok-more-in-Some.ensures (c.in_ok-add_all-in-Some.ensures ∙ ap (λ (vs : List TyVar). c.args.found.now ++ vs) c.deref.ensures.value)

pub returns-in_ok-push-in-None : goal.returns-in_ok-push-in-None
returns-in_ok-push-in-None c =
    let u = c.args.unknowns.now in
    free_gets u.types u.subst.bound c.args.var c.args.found.now c.push.new.self (sym c.bound_to.ensures ∙ c.in-None.is) c.in_ok-push-in-None.ensures.ok
