use Rattle.std.proofs.Common.{◌≡◌, ◌∙◌, map, ap, subst}
use Rattle.placed_ir.specs.declared.body.Step.TheVariants as step
use Rattle.place_laws.specs.Live.{without_all, names_of}
use Rattle.place_laws.specs.Place.{building_of}
use Rattle.closed_live.specs.Same.{AreSame}
use Rattle.place_bodies.specs.Steps.{at_of, name_steps, group_table}
use Rattle.reg_spill.proofs.Names.{steps_same, table_same}
use Rattle.reg_spill.proofs.Alive.{then_is, then_pushed}
use Rattle.reg_spill.proofs.binds.place_group.Goals as goal

taken : (c : goal.After-drop-names-2) → AreSame c.in_ok-taken.taken.keys (map (at_of c.args.table.now.items) (without_all (names_of c.args.makers.now) c.args.alive.now))
taken c =
    subst (λ ns. AreSame c.in_ok-taken.taken.keys (map (at_of c.args.table.now.items) (without_all ns c.args.alive.now))) (c.as_slice-3.ensures.value ∙ c.in_ok-names.ensures)
    (subst (λ t. AreSame c.in_ok-taken.taken.keys (map (at_of t) (without_all c.as_slice-3.result.now c.args.alive.now))) c.as_slice-2.ensures.value c.in_ok-taken.ensures)

pub returns-clause-table : goal.returns-clause-table
returns-clause-table c =
    let mine = map (at_of c.args.table.now.items) (without_all (names_of c.args.makers.now) c.args.alive.now) in
    then_is c.name_all.result c.name_all.new.table.items (group_table c.args.alive.now c.args.makers.now c.in_ok-taken.taken.keys c.args.table.now.items) (group_table c.args.alive.now c.args.makers.now mine c.args.table.now.items)
    (table_same c.args.alive.now c.args.makers.now c.in_ok-taken.taken.keys mine c.args.table.now.items (taken c)) c.name_all.ensures.table

pub returns-clause-steps : goal.returns-clause-steps
returns-clause-steps c =
    let mine = map (at_of c.args.table.now.items) (without_all (names_of c.args.makers.now) c.args.alive.now) in
    let made : c.in_ok-buildings.buildings ≡ map (building_of (at_of c.args.table.now.items) c.args.makers.now) c.args.makers.now =
    c.in_ok-buildings.ensures ∙ ap (λ t. map (building_of (at_of t) c.args.makers.now) c.args.makers.now) c.as_slice.ensures.value in
    then_pushed c.name_all.result c.args.steps.now.items c.push.new.self.items c.name_all.new.steps.items (step.Make c.in_ok-buildings.buildings) (step.Make (map (building_of (at_of c.args.table.now.items) c.args.makers.now) c.args.makers.now)) (name_steps c.args.alive.now c.args.makers.now 0 c.in_ok-taken.taken.keys) (name_steps c.args.alive.now c.args.makers.now 0 mine)
    c.in_ok-push.ensures.items (ap step.Make made) (steps_same c.args.alive.now c.args.makers.now 0 c.in_ok-taken.taken.keys mine (taken c)) c.name_all.ensures.steps
