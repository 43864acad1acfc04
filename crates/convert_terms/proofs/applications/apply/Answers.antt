use Rattle.std.proofs.Common.{false, ap, ◌∙◌, arith}
use Rattle.std.proofs.lemmas.Result.{IfOk-weaker}
use Rattle.convert_decide.specs.Decide.{item_in}
use Rattle.convert_decide.specs.declared.table.Fact.{Fact}
use Rattle.convert_terms.proofs.Formed.{applied_written}
use Rattle.convert_terms.proofs.applications.apply.Goals as goal

pub returns : goal.returns
returns c =
    IfOk-weaker c.part.result _ _
    (λ t h.
    applied_written (item_in false c.args.source.own.now) c.args.source.terms.now c.args.world.now _ c.args.binds.now _ c.fact_in-head.result.head c.args.function c.args.argument _ c.args.scope c.args.next _ c.args.continuation _
    (ap (λ (f : Fact). f.head) (c.fact_in-head.ensures ∙ c.requires.facts_are.at c.args.function (omega arith))) c.first_part-first.ensures c.awaited.ensures h)
    c.part.ensures
