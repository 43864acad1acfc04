use Rattle.std.proofs.Common.{◌≡◌, [], ◌∷◌, cond, ◌∙◌, ap}
use Rattle.placed_ir.specs.declared.body.Step.TheVariants as step
use Rattle.place_laws.specs.Live.{is_in, without}
use Rattle.place_laws.specs.Place.{home_of, place_beside, source_of, source_for}
use Rattle.place_bodies.specs.Steps.{at_of, if_alive}
use Rattle.reg_spill.specs.Homed.{homed}
use Rattle.reg_spill.proofs.Alive.{homed_if, then_same}
use Rattle.reg_spill.proofs.binds.place_let.Goals as goal

pub returns-clause-steps : goal.returns-clause-steps
returns-clause-steps c =
    let at = at_of c.args.table.now.items in
    let home = home_of (place_beside at (without c.args.variable c.args.alive.now)) in
    let alive = is_in c.args.variable c.args.alive.now in
    let value : c.in_ok-value.value ≡ source_for at c.args.value.now = c.in_ok-value.ensures ∙ ap (λ t. source_of (at_of t) [] c.args.value.now) c.as_slice.ensures.value in
    then_same c.let_step.result c.args.steps.now.items c.let_step.new.steps.items (homed (λ h. step.Let h c.in_ok-value.value) c.in_ok-home.home) (if_alive c.args.variable c.args.alive.now (step.Let home (source_for at c.args.value.now)))
    (ap (homed (λ h. step.Let h c.in_ok-value.value)) c.in_ok-home.ensures.home ∙ homed_if (λ h. step.Let h c.in_ok-value.value) alive home ∙ ap (λ v. cond alive (step.Let home v ∷ []) []) value)
    c.let_step.ensures
