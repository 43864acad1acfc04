use Rattle.std.proofs.Common.{Some, None, ap, ◌∙◌, subst, List, arith}
use Rattle.sml_types.specs.declared.types.TyVar.{TyVar}
use Rattle.sml_types.specs.TypeExps.{all_explicit}
use Rattle.infer_tables.specs.Meaning.{IsCoveredOrNone}
use Rattle.infer_tables.proofs.BindingFacts.{binding_added_as, binding_refused}
use Rattle.infer_tables.proofs.bindings.add_binding.Goals as goal

pub returns : goal.returns
returns c =
    let number = c.if-binding-len.false in
    let count = c.len.ensures in
    binding_added_as c.args.bare.now c.args.types.now c.covered.new.types c.args.known c.requires.scope c.in_ok-body.ensures.longer c.args.binding.now (record { vars = c.in_ok-vars.vars; body = c.in-Some.body }) c.push.new.self c.in_ok-push.ensures.ok c.in_ok-body.ensures.vars (c.in_ok-vars.ensures.is ∙ ap (all_explicit c.args.bare.now.tyvars) c.items.ensures) (omega arith)
    (subst (λ (vs : List TyVar). IsCoveredOrNone c.args.bare.now c.covered.new.types c.args.known vs c.args.binding.now.ty (Some c.in-Some.body)) c.items-2.ensures
    (subst (IsCoveredOrNone c.args.bare.now c.covered.new.types c.args.known c.items-2.result.now c.args.binding.now.ty) c.in-Some.is c.in_ok-body.ensures.ok))

pub returns-in_default : goal.returns-in_default
returns-in_default c =
    binding_refused c.args.bare.now c.args.types.now c.covered.new.types c.args.known c.requires.scope c.in_ok-body.ensures.longer c.args.binding.now c.in_ok-vars.vars (c.in_ok-vars.ensures.is ∙ ap (all_explicit c.args.bare.now.tyvars) c.items.ensures)
    (subst (λ (vs : List TyVar). IsCoveredOrNone c.args.bare.now c.covered.new.types c.args.known vs c.args.binding.now.ty None) c.items-2.ensures
    (subst (IsCoveredOrNone c.args.bare.now c.covered.new.types c.args.known c.items-2.result.now c.args.binding.now.ty) c.in_default.is c.in_ok-body.ensures.ok))
