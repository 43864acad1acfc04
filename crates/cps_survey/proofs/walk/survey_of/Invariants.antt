use Rattle.std.proofs.Common.{◌≡◌, None, ◌++◌, reverse}
use Rattle.cps_ir.specs.Program.{code_at}
use Rattle.cps_ir.specs.Slim.{layouts}
use Rattle.lifetime_users.specs.Users.{bindings}
use Rattle.cps_survey.proofs.Turns.{over, total, layouts_in, bindings_in, turns_in}
use Rattle.cps_survey.specs.Steps.{turns}
use Rattle.cps_survey.proofs.walk.survey_of.Given as goal

abbrev pub invariant-loop-task : goal.invariant-loop-task
invariant-loop-task l = record {
  found : l.layouts.items ++ over (layouts_in (λ i. layouts (code_at l.bodies i))) (reverse l.work.items) ≡ layouts (code_at l.bodies 0);
  bound : l.bindings.items ++ over (bindings_in (λ h i. bindings h (code_at l.bodies i))) (reverse l.work.items) ≡ bindings None (code_at l.bodies 0);
}

abbrev pub decreases-loop-task : goal.decreases-loop-task
decreases-loop-task l = total (turns_in (λ i. turns (code_at l.bodies i))) (reverse l.work.items)
