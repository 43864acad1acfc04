use Rattle.std.proofs.Common.{◌∙◌, ap}
use Rattle.placed_ir.specs.declared.body.Step.TheVariants as step
use Rattle.place_laws.specs.Live.{is_in, without}
use Rattle.place_laws.specs.Place.{home_of, place_beside}
use Rattle.place_bodies.specs.Steps.{at_of, if_alive}
use Rattle.reg_spill.specs.Homed.{homed}
use Rattle.reg_spill.proofs.Alive.{homed_if, then_same}
use Rattle.reg_spill.proofs.binds.place_handler.Goals as goal

pub returns-clause-steps : goal.returns-clause-steps
returns-clause-steps c =
    let at = at_of c.args.table.now.items in
    let home = home_of (place_beside at (without c.args.variable c.args.alive.now)) in
    then_same c.handler_step.result c.args.steps.now.items c.handler_step.new.steps.items (homed step.Handler c.in_ok-home.home) (if_alive c.args.variable c.args.alive.now (step.Handler home))
    (ap (homed step.Handler) c.in_ok-home.ensures.home ∙ homed_if step.Handler (is_in c.args.variable c.args.alive.now) home)
    c.handler_step.ensures
