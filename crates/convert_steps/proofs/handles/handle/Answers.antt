use Rattle.std.proofs.Common.{◌≡◌, ℕ, false, ap, ◌∙◌, arith}
use Rattle.std.proofs.Math.Path.{fun_ext}
use Rattle.convert_laws.specs.Convert.{size_at, size_cases}
use Rattle.convert_decide.specs.declared.table.Fact.{Fact}
use Rattle.convert_decide.specs.Decide.{item_in}
use Rattle.convert_decide.specs.Table.{fact_in}
use Rattle.convert_steps.proofs.Handled.{handle_written}
use Rattle.convert_steps.proofs.handles.handle.Goals as goal

pub returns : goal.returns
returns c =
    let sizes : ◌≡◌ {A = ℕ → ℕ} (λ j. (fact_in c.args.source.facts.now j).size) (size_at c.args.source.terms.now) = fun_ext (λ j. ap (λ (f : Fact). f.size) (c.requires.facts_are.at j (omega arith))) in
    handle_written (item_in false c.args.source.own.now) c.args.source.terms.now c.args.world.now c.begin.new.world c.begin-2.new.world c.args.binds.now _ _ _ c.args.term c.args.inner c.args.scope c.args.next c.in_ok-size.size c.in_ok-sum.field-0 c.in_ok-inside.inside c.in_ok-caught.caught c.in_ok-popped.popped c.args.continuation c.in_ok-names.names c.in_ok-functions.functions c.in_ok-names.ensures
    (c.in_ok-size.ensures ∙ ap (λ (f : ℕ → ℕ). size_cases f c.cases_at.result.now) sizes ∙ ap (size_cases (size_at c.args.source.terms.now)) c.cases_at.ensures)
    c.in_ok-sum.ensures c.in_ok-inside.ensures c.in_ok-caught.ensures.number c.in_ok-caught.ensures.tasks c.in_ok-popped.ensures.number c.in_ok-popped.ensures.tasks c.in_ok-functions.ensures c.in_ok-push.ensures.ok c.in_ok-push-2.ensures.ok c.in_ok-push-3.ensures.ok
