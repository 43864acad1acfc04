use Rattle.std.proofs.Common.{◌∷◌, ◌++◌, [], false, ap, ◌∙◌, arith}
use Rattle.convert_decide.specs.declared.table.Fact.{Fact}
use Rattle.convert_decide.specs.Decide.{item_in}
use Rattle.convert_steps.proofs.Part.{own_written}
use Rattle.convert_steps.proofs.parts.own_part.Goals as goal

pub returns : goal.returns
returns c =
    own_written (item_in false c.args.source.own.now) c.args.source.terms.now c.args.world.now c.begin.new.world c.args.binds.now _ c.args.term c.args.scope c.args.next c.in_ok-value.value c.in_ok-inside.inside c.in_ok-behind.behind c.fact_in.result.size c.in_ok-body.body c.args.continuation c.in_ok-value.ensures c.in_ok-inside.ensures c.in_ok-behind.ensures
    (ap (λ (f : Fact). f.size) (c.fact_in.ensures ∙ c.requires.facts_are.at c.args.term (omega arith)))
    c.in_ok-body.ensures.number
    c.in_ok-body.ensures.tasks
    (c.in_ok-push.ensures.ok ∙ ap (λ b. c.args.binds.now ++ b ∷ []) c.in_ok-one_function.ensures)
