use Rattle.std.proofs.Common.{◌≡◌, [], map, ◌∙◌, ap}
use Rattle.placed_ir.specs.declared.body.Step.TheVariants as step
use Rattle.place_laws.specs.Live.{is_in, without}
use Rattle.place_laws.specs.Place.{home_of, place_beside, source_of, source_for}
use Rattle.place_bodies.specs.Steps.{at_of, if_alive}
use Rattle.reg_spill.specs.Homed.{homed}
use Rattle.reg_spill.proofs.Alive.{homed_if, then_pushed}
use Rattle.reg_spill.proofs.binds.place_prim.Goals as goal

pub returns-clause-steps : goal.returns-clause-steps
returns-clause-steps c =
    let at = at_of c.args.table.now.items in
    let home = home_of (place_beside at (without c.args.variable c.args.alive.now)) in
    let sources : c.in_ok-sources.sources ≡ map (source_for at) c.args.operands.now = c.in_ok-sources.ensures ∙ ap (λ t. map (source_of (at_of t) []) c.args.operands.now) c.as_slice.ensures.value in
    then_pushed c.take_step.result c.args.steps.now.items c.push.new.self.items c.take_step.new.steps.items (step.Prim c.args.primitive c.in_ok-sources.sources) (step.Prim c.args.primitive (map (source_for at) c.args.operands.now)) (homed step.Take c.in_ok-home.home) (if_alive c.args.variable c.args.alive.now (step.Take home))
    c.in_ok-push.ensures.items (ap (step.Prim c.args.primitive) sources)
    (ap (homed step.Take) c.in_ok-home.ensures.home ∙ homed_if step.Take (is_in c.args.variable c.args.alive.now) home)
    c.take_step.ensures
