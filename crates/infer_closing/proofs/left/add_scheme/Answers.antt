use Rattle.std.proofs.Common.{List, ◌++◌, ap, ◌∙◌}
use Rattle.sml_types.specs.declared.types.TyVar.{TyVar}
use Rattle.infer_closing.specs.Found.{left_of}
use Rattle.infer_closing.proofs.LeftFacts.{scheme_gets}
use Rattle.infer_closing.proofs.left.add_scheme.Goals as goal

pub variables-requires-clause-bindings : goal.variables-requires-clause-bindings
variables-requires-clause-bindings c = c.new-none.ensures.bindings c.args.types.now

pub returns : goal.returns
returns c =
    scheme_gets c.args.types.now c.new-none.result.bound c.args.scheme.now.body.0 c.args.scheme.now.vars c.in_ok-vars.vars.items c.args.left.now c.add_others.new.vars c.new-none.ensures.none c.in_ok-vars.ensures (c.in_ok-add_others.ensures ∙ ap (λ (vs : List TyVar). c.args.left.now ++ left_of c.items.result.now vs) c.deref.ensures.value ∙ ap (λ (these : List TyVar). c.args.left.now ++ left_of these c.in_ok-vars.vars.items) c.items.ensures)
