use Rattle.std.proofs.Common.{false, ap, sym, ◌∙◌, subst, arith}
use Rattle.convert_decide.specs.declared.table.Fact.{Fact}
use Rattle.convert_decide.specs.Decide.{item_in, IsOwn}
use Rattle.convert_decide.specs.Table.{fact_in}
use Rattle.cps_convert.proofs.Converted.{bodies_of}
use Rattle.cps_convert.proofs.program.make.Goals as goal

pub returns : goal.returns
returns c = record {
  bodies_are =
      bodies_of (item_in false c.items-3.result.now) c.args.terms.now c.args.sites.now c.in_ok-world.world _ c.in_ok-bodies.bodies
      (subst (IsOwn c.args.terms.now c.args.sites.now) (sym c.items-3.ensures) c.in_ok-own.ensures) c.in_ok-world.ensures c.in_ok-bodies.ensures.written c.in_ok-bodies.ensures.all;
  variables_are =
      ap (λ (f : Fact). f.size) (c.fact_in-variables.ensures ∙ ap (λ fs. fact_in fs 0) c.items-4.ensures ∙ c.in_ok-facts.ensures.at 0 (omega arith));
}
