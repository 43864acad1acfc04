use Rattle.std.proofs.Common.{List, Option, ap, ◌∙◌, subst}
use Rattle.sml_types.specs.declared.types.Ty.{Ty}
use Rattle.sml_types.specs.Tree.{Tree}
use Rattle.sml_unify.specs.Solved.{meant, under}
use Rattle.sml_unify.specs.Variables.{AreVariables}
use Rattle.infer_checks.proofs.OpenFacts.{nothing_bound}
use Rattle.infer_checks.proofs.open.inner_variables.Goals as goal

pub variables-requires-clause-bindings : goal.variables-requires-clause-bindings
variables-requires-clause-bindings c = c.new-none.ensures.bindings c.args.unknowns.now.types

pub returns : goal.returns
returns c =
    let forms = c.args.unknowns.now.types in
    let at = c.args.settled.now.scheme.body.0 in
    subst
    (λ (t : Tree). AreVariables c.in_ok-vars.vars.items t)
    (ap (λ (b : List (Option Ty)). under forms (meant forms b) at) c.new-none.ensures.none ∙ nothing_bound forms at)
    c.in_ok-vars.ensures
