use Rattle.std.proofs.Common.{◌∷◌, ◌++◌, [], false, ap, ◌∙◌}
use Rattle.convert_decide.specs.Decide.{item_in}
use Rattle.convert_steps.proofs.Matched.{right_begun}
use Rattle.convert_steps.proofs.matches.right_tested.Goals as goal

pub returns : goal.returns
returns c =
    λ bs.
    right_begun (item_in false c.args.source.own.now) c.args.source.terms.now c.args.world.now c.begin.new.world c.begin-2.new.world bs c.go.new.self c.args.tested.now c.in_ok-tests.tests c.args.bound c.args.scope c.args.next c.in_ok-body.body c.in_ok-otherwise.otherwise c.args.subject c.args.continuation _ c.in_ok-go.ensures.bounds c.in_ok-go.ensures.present c.present.ensures.here c.in_ok-tests.ensures c.in_ok-body.ensures.number c.in_ok-body.ensures.tasks c.in_ok-otherwise.ensures.number c.in_ok-otherwise.ensures.tasks
    (c.in_ok-push.ensures.ok ∙ ap (λ rs. rs ++ record { tests = c.in_ok-tests.tests; body = c.in_ok-body.body } ∷ []) c.new-rules.ensures)
