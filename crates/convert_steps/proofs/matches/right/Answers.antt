use Rattle.std.proofs.Common.{◌≡◌, IsTrue, false, [], refl, sym, ◌∙◌, subst, rules}
use Rattle.std.proofs.lemmas.Result.{IfOk-weaker}
use Rattle.convert_decide.specs.Decide.{item_in}
use Rattle.convert_steps.proofs.Matched.{right_plain, right_with_tests}
use Rattle.convert_steps.proofs.matches.right.Goals as goal

never : IsTrue false → ⊥
never h = cc

pub returns-then-is_empty : goal.returns-then-is_empty
returns-then-is_empty c =
    let none : c.index-all-index.result.tests ≡ [] = c.is_empty.ensures.0 (search rules) in
    λ bs.
    right_plain (item_in false c.args.source.own.now) c.args.source.terms.now c.args.world.now bs c.args.declaration c.args.at c.args.body c.args.scope c.args.next c.args.subject c.args.continuation c.binds_at-all.result.now c.index-all-index.result c.index-all-index.result.tests c.binds_at-all.ensures c.if-index-all.false c.index-all-index.is refl none

pub returns : goal.returns
returns c =
    IfOk-weaker c.right_tested.result _ _
    (λ s h bs. right_with_tests (item_in false c.args.source.own.now) c.args.source.terms.now c.args.world.now c.right_tested.new.world bs c.args.declaration c.args.at c.args.body c.args.scope c.args.next c.args.subject c.args.continuation c.binds_at-all.result.now c.index-all-index.result c.items.result.now s c.binds_at-all.ensures c.if-index-all.false c.index-all-index.is c.items.ensures
    (λ e. never (subst IsTrue c.if-is_empty.false (c.is_empty.ensures.1 (sym c.items.ensures ∙ e)))) (h bs))
    c.right_tested.ensures
