use Rattle.std.proofs.Common.{◌≡◌, ◌<◌, ◌∷◌, ◌∙◌, length, flat_map, ap, sym, subst}
use Rattle.std.specs.List.{AllByRecursion}
use Rattle.sml_tree.specs.IsBare.{IsDistinct}
use Rattle.closure_ir.specs.Kept.{body_parts}
use Rattle.place_laws.specs.Place.{nowhere}
use Rattle.place_bodies.specs.Whole.{HasPlaces}
use Rattle.reg_spill.proofs.Params.{bodies_of, Begins}
use Rattle.reg_spill.proofs.Standing.{roots_distinct, first_not, all_stand, functions_placed, functions_apart}
use Rattle.reg_spill.proofs.plain.place_plainly.Goals as goal

pub begin-requires-clause-apart : goal.begin-requires-clause-apart
begin-requires-clause-apart c =
    let p = c.args.program.now in
    subst (λ fs. IsDistinct (0 ∷ bodies_of fs)) (sym c.functions.ensures) (roots_distinct p.functions (flat_map body_parts p.bodies) c.bodies.ensures.kept.apart)

pub begin-requires-clause-stand : goal.begin-requires-clause-stand
begin-requires-clause-stand c =
    let p = c.args.program.now in
    let long : length p.bodies ≡ length c.as_slice.result.now = sym (ap length c.as_slice.ensures.value ∙ c.in_ok-lives.ensures.len) in
    subst (AllByRecursion (λ f. f.body < length c.as_slice.result.now)) (sym c.functions.ensures) (all_stand p (length c.as_slice.result.now) p.functions long c.bodies.ensures.kept.functions)

pub returns-clause-main : goal.returns-clause-main
returns-clause-main c =
    let p = c.args.program.now in
    sym
    (c.in_ok-placed.ensures.placed 0 nowhere (first_not p.functions (flat_map body_parts p.bodies) c.bodies.ensures.kept.apart)
    (subst (λ ls. HasPlaces ls c.in_ok-entries.entries.items 0 nowhere) (c.as_slice.ensures.value ∙ sym c.as_slice-2.ensures.value) c.in_ok-entries.ensures.main))

pub returns-clause-functions : goal.returns-clause-functions
returns-clause-functions c =
    let p = c.args.program.now in
    let parts = flat_map body_parts p.bodies in
    let entries = c.in_ok-entries.entries.items in
    functions_placed p c.as_slice-2.result.now entries c.in_ok-placed.placed.items parts c.in_ok-placed.ensures.placed p.functions (functions_apart p.functions parts c.bodies.ensures.kept.apart)
    (subst (AllByRecursion (Begins c.as_slice-2.result.now entries)) c.functions.ensures
    (subst (λ ls. AllByRecursion (Begins ls entries) c.functions.result.now) (c.as_slice.ensures.value ∙ sym c.as_slice-2.ensures.value) c.in_ok-entries.ensures.functions))
