use Rattle.std.proofs.Common.{rules, ◌≡◌, ◌∷◌, ◌++◌, ◌+◌, drop, List, ℕ, ap, sym, ◌∙◌}
use Rattle.std.specs.Prelude.{get_or}
use Rattle.close_steps.specs.Visible.{visible, hand_in}
use Rattle.close_groups.specs.Group.{noted, missing}
use Rattle.close_groups.proofs.Noted.{missing_step, drop_at}
use Rattle.close_groups.proofs.members.lacking.Goals as goal

pub loop-class-preserved : goal.loop-class-preserved
loop-class-preserved c =
    let front : drop c.loop-class.class-index c.args.needs.now ≡ get_or c.args.needs.now c.loop-class.class-index _ ∷ drop (c.loop-class.class-index + 1) c.args.needs.now = drop_at c.args.needs.now c.loop-class.class-index _ (search rules) in
    missing_step (hand_in (visible c.args.scopes.now c.args.environment)) c.loop-class.found.items _ _ (drop (c.loop-class.class-index + 1) c.args.needs.now) c.in_ok-push_lacking.ensures
    ∙ ap (λ (ks : List ℕ). c.loop-class.found.items ++ missing (noted (hand_in (visible c.args.scopes.now c.args.environment)) c.loop-class.found.items) ks) (sym front)
    ∙ c.loop-class.invariant
