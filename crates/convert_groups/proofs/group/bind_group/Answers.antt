use Rattle.std.proofs.Common.{false, ◌+◌, ap, ◌∙◌, arith}
use Rattle.convert_decide.specs.declared.table.Fact.{Fact}
use Rattle.convert_decide.specs.Decide.{item_in}
use Rattle.convert_groups.proofs.Whole.{group_written}
use Rattle.convert_groups.proofs.group.bind_group.Goals as goal

pub returns : goal.returns
returns c =
    group_written (item_in false c.args.source.own.now) c.args.source.terms.now c.args.world.now c.begin_group.new.world c.args.binds.now _ c.args.bindings.now c.go.new.self c.bind_all.new.scopes c.in_ok-names.names c.items.result.now c.args.declaration c.args.body c.args.scope c.present-inside.result c.args.next c.in_ok-first.first c.in_ok-later.later c.fact_in.result.size c.args.continuation c.in_ok-functions.functions
    (c.in_ok-first.ensures ∙ ap (λ n. c.args.next + n) c.in_ok-number.ensures) (ap (λ (f : Fact). f.size) (c.fact_in.ensures ∙ c.requires.facts_are.at c.args.declaration (omega arith))) c.in_ok-later.ensures c.in_ok-names.ensures c.items.ensures c.in_ok-go.ensures.bounds c.in_ok-go.ensures.present
    c.in_ok-bind_all.ensures.kept c.in_ok-bind_all.ensures.bound c.present-inside.ensures.number c.in_ok-functions.ensures c.in_ok-push.ensures.ok
