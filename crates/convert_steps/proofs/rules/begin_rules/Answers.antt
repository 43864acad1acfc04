use Rattle.std.proofs.Common.{◌≡◌, ◌+◌, ℕ, false, IsTrue, [], refl, ap, ◌∙◌, subst, arith, rules}
use Rattle.convert_laws.specs.Convert.{steps_of, tests_of}
use Rattle.convert_scopes.specs.Scopes.{IsScope, atom_in}
use Rattle.convert_decide.specs.declared.table.Fact.{Fact}
use Rattle.convert_decide.specs.Decide.{item_in}
use Rattle.convert_steps.proofs.Rowed.{begun_none, begun_more_rules, ended_without_tests, ended_thrown, as_choices}
use Rattle.convert_steps.proofs.rules.begin_rules.Goals as goal

never : IsTrue false → ⊥
never h = cc

pub loop-case-init : goal.loop-case-init
loop-case-init c = record {
  index = refl;
  begun = begun_none (item_in false c.args.source.own.now) c.args.source.terms.now c.args.world.now c.present-scope.result c.args.continuation c.new-rules.result _ c.new-rules.ensures;
}

pub loop-case-preserved : goal.loop-case-preserved
loop-case-preserved c = record {
  index = c.in_ok-at.ensures ∙ ap (λ (n : ℕ). n + 1) c.loop-case.invariant.index;
  begun =
      begun_more_rules (item_in false c.args.source.own.now) c.args.source.terms.now c.args.world.now c.loop-case.world c.begin.new.world c.present-scope.result c.args.continuation c.loop-case.rules _ _ c.cases_at-cases.result.now c.loop-case.case-index _ c.loop-case.at c.args.term c.in_ok-body.body c.loop-case.later c.in_ok-later.later c.args.subject c.args.thrown c.case-item.result c.in_ok-tests.tests c.loop-case.invariant.begun c.loop-case-test.true c.case-item.is c.cases_at-cases.ensures c.loop-case.invariant.index c.in_ok-body.ensures.number c.in_ok-body.ensures.tasks
      (λ e. never (subst IsTrue c.if-is_empty.false (c.is_empty.ensures.1 e)))
      (λ σ s. c.present-scope.ensures.here σ (subst (λ p. IsScope c.args.world.now.scopes.bounds p σ) c.present-scope.ensures.number s))
      (c.in_ok-tests.ensures ∙ ap (tests_of (atom_in c.begin.new.world.scopes.table)) c.items.ensures)
      c.in_ok-push.ensures.ok
      (c.in_ok-later.ensures ∙ ap (λ n. c.loop-case.later + n) (c.in_ok-case_size.ensures ∙ ap (λ (f : Fact). steps_of c.case-item.result.names + f.size) (c.requires.facts_are.at c.case-item.result.body (omega arith))))
      refl;
}

pub returns-then-is_empty : goal.returns-then-is_empty
returns-then-is_empty c =
    let none : c.case-item.result.tests ≡ [] = c.is_empty.ensures.0 (search rules) in
    as_choices (item_in false c.args.source.own.now) c.args.source.terms.now c.args.world.now c.begin.new.world c.present-scope.result _ c.args.continuation c.cases_at-cases.result.now _ c.args.subject c.args.thrown c.args.next _ c.present-scope.ensures.number c.cases_at-cases.ensures
    (ended_without_tests (item_in false c.args.source.own.now) c.args.source.terms.now c.args.world.now c.loop-case.world c.begin.new.world c.present-scope.result c.args.continuation c.loop-case.rules _ c.cases_at-cases.result.now c.loop-case.case-index c.loop-case.at c.args.term c.in_ok-body.body c.loop-case.later c.args.subject c.args.thrown c.case-item.result c.loop-case.invariant.begun c.loop-case-test.true c.case-item.is c.cases_at-cases.ensures c.loop-case.invariant.index c.in_ok-body.ensures.number c.in_ok-body.ensures.tasks none)

pub returns : goal.returns
returns c =
    as_choices (item_in false c.args.source.own.now) c.args.source.terms.now c.args.world.now c.begin-2.new.world c.present-scope.result _ c.args.continuation c.cases_at-cases.result.now _ c.args.subject c.args.thrown c.args.next _ c.present-scope.ensures.number c.cases_at-cases.ensures
    (ended_thrown (item_in false c.args.source.own.now) c.args.source.terms.now c.args.world.now c.loop-case.world c.begin-2.new.world c.present-scope.result c.args.continuation c.loop-case.rules _ c.cases_at-cases.result.now c.loop-case.case-index c.in_ok-otherwise.otherwise c.loop-case.later c.args.subject c.args.thrown c.loop-case.invariant.begun c.loop-case-test.false c.in_ok-otherwise.ensures.number c.in_ok-otherwise.ensures.tasks)
