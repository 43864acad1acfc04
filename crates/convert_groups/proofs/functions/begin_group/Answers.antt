use Rattle.std.proofs.Common.{false, ◌+◌, ap, ◌∙◌, refl, arith}
use Rattle.convert_decide.specs.declared.table.Fact.{Fact}
use Rattle.convert_decide.specs.Decide.{item_in}
use Rattle.convert_groups.proofs.Grouped.{begun_none, begun_item}
use Rattle.convert_groups.proofs.functions.begin_group.Goals as goal

pub loop-binding-init : goal.loop-binding-init
loop-binding-init c =
    begun_none (item_in false c.args.source.own.now) c.args.source.terms.now c.args.world.now c.args.scope c.new-functions.result _ c.new-functions.ensures

pub loop-binding-preserved : goal.loop-binding-preserved
loop-binding-preserved c =
    begun_item (item_in false c.args.source.own.now) c.args.source.terms.now c.requires.numbered c.args.world.now c.loop-binding.world c.begin_one.new.world c.args.scope c.loop-binding.functions c.begin_one.new.functions _ c.args.bindings.now c.loop-binding.binding-index _ c.loop-binding.name c.in_ok-name.name c.loop-binding.later c.in_ok-later.later _ c.function_number-term.result c.loop-binding.invariant c.loop-binding-test.true refl c.in_ok-name.ensures
    (c.in_ok-later.ensures ∙ ap (λ n. c.loop-binding.later + n) (ap (λ (f : Fact). f.size) (c.fact_in.ensures ∙ c.requires.facts_are.at _ (omega arith))))
    c.function_number-term.ensures c.in_ok-begin_one.ensures
