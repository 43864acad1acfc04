use Rattle.std.proofs.Common.{◌≡◌, length, sym, ap, ◌∙◌, arith}
use Rattle.sml_expansion.specs.Marks.{marks}
use Rattle.sml_derive.specs.Steps.{marked}
use Rattle.sml_derive.proofs.Schemas.{is, on_so}
use Rattle.sml_derive.proofs.FunctionLemmas.{tuple_of_one, tuple_closed}
use Rattle.sml_derive.proofs.function_declarations.argument.Goals as goal

pub returns-in_ok-variables : goal.returns-in_ok-variables
returns-in_ok-variables c =
    let one : length c.args.names.now ≡ 1 = omega arith in
    c.in_ok-variables.ensures.walk ∙ ap (λ f. marked (marks f) c.args.walk.now) (sym (tuple_of_one c.args.place c.args.names.now one))

pub returns-in_ok-trees : goal.returns-in_ok-trees
returns-in_ok-trees c =
    on_so c.close_tuple.result _ _ (λ e. tuple_closed c.args.place c.args.names.now c.args.walk.now c.open.new.self c.variables-else-names-eq1.new.walk c.close_tuple.new.walk c.in_ok-trees.trees (λ k. omega (arith, k)) (is c.in_ok-open.ensures) c.in_ok-trees.ensures (is e)) c.close_tuple.ensures
