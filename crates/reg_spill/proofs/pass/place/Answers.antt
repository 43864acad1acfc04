use Rattle.std.proofs.Common.{◌≡◌, ◌∙◌, length, map, flat_map, ap, sym, subst}
use Rattle.std.specs.List.{AllByRecursion}
use Rattle.closure_ir.specs.Program as closing
use Rattle.closure_ir.specs.Program.{Closed}
use Rattle.closure_ir.specs.Kept as kept
use Rattle.placed_ir.specs.Program as placing
use Rattle.placed_ir.specs.Kept as there
use Rattle.place_laws.specs.Place.{nowhere, place_code, place_plain, spills, greater, frame_size}
use Rattle.place_bodies.proofs.Unfold.{AreNumbered}
use Rattle.place_bodies.specs.Steps.{at_of}
use Rattle.reg_spill.specs.Frames.{with_frame, most_words}
use Rattle.reg_spill.specs.Leads.{AreKept}
use Rattle.reg_spill.proofs.Recorded.{tree_placed, program_kept}
use Rattle.reg_spill.proofs.pass.place.Goals as goal

pub invariant_of-placed : goal.invariant_of-placed
invariant_of-placed c =
    let p = c.args.closed.now in
    let words = c.in_ok-words.words.items in
    let back = sym c.from_vec.ensures in
    program_kept p _ (at_of words) (subst kept.IsProgram c.closed.view_is c.closed.invariant)
    (subst (AreKept p) back c.in_ok-bodies.ensures.kept)
    (subst AreNumbered back c.in_ok-bodies.ensures.numbered)
    (subst (λ bs. length bs ≡ length p.bodies) back c.in_ok-bodies.ensures.len)
    (subst (λ bs. flat_map there.body_parts bs ≡ flat_map kept.body_parts p.bodies) back c.in_ok-bodies.ensures.parts)
    (c.in_ok-functions.ensures ∙ ap (λ ws. map (with_frame (at_of ws)) c.functions.result.now) c.as_slice-3.ensures.value ∙ ap (map (with_frame (at_of words))) c.functions.ensures)
    (c.in_ok-spill.ensures ∙ ap (λ fs. greater (frame_size c.at-frame.result) (most_words fs)) c.items.ensures)
    (c.in_ok-points.ensures ∙ c.points.ensures)
    (c.in_ok-texts.ensures ∙ c.items-3.ensures ∙ ap (λ (q : Closed). q.texts) c.closed.view_is)
    (c.in_ok-exns.ensures ∙ c.items-4.ensures ∙ ap (λ (q : Closed). q.exns) c.closed.view_is)

pub returns : goal.returns
returns c =
    let p = c.args.closed.now in
    let words = c.in_ok-words.words.items in
    let back = sym c.from_vec.ensures in
    tree_placed p _ (at_of words)
    (λ i. c.in_ok-words.ensures i ∙ ap (λ bs. spills (placing.code_at bs i)) (c.as_slice.ensures.value ∙ back))
    (c.at-frame.ensures ∙ ap (λ ws. at_of ws 0) c.as_slice-2.ensures.value)
    (c.in_ok-functions.ensures ∙ ap (λ ws. map (with_frame (at_of ws)) c.functions.result.now) c.as_slice-3.ensures.value ∙ ap (map (with_frame (at_of words))) c.functions.ensures)
    (c.in_ok-spill.ensures ∙ ap (λ fs. greater (frame_size c.at-frame.result) (most_words fs)) c.items.ensures)
    (c.in_ok-points.ensures ∙ c.points.ensures)
    (c.in_ok-sites.ensures ∙ c.items-2.ensures ∙ ap (λ (q : Closed). q.sites) c.closed.view_is)
    (c.in_ok-texts.ensures ∙ c.items-3.ensures ∙ ap (λ (q : Closed). q.texts) c.closed.view_is)
    (c.in_ok-exns.ensures ∙ c.items-4.ensures ∙ ap (λ (q : Closed). q.exns) c.closed.view_is)
    (subst (λ bs. placing.code_at bs 0 ≡ place_code nowhere (closing.code_at p.bodies 0)) back c.in_ok-bodies.ensures.main)
    (subst (λ bs. AllByRecursion (λ f. placing.code_at bs f.body ≡ place_plain (closing.routine_of p.bodies f)) p.functions) back c.in_ok-bodies.ensures.functions)
