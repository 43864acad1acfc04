use Rattle.std.proofs.Common.{◌≡◌, ◌∙◌, length, ap, sym, subst, arith}
use Rattle.std.specs.List.{AllByRecursion}
use Rattle.simulation.specs.Blocks.{IsAmong}
use Rattle.placed_ir.specs.Kept as there
use Rattle.place_bodies.proofs.Keeping.{steps_kept, end_kept}
use Rattle.sml_tree.specs.Sets.{row_at}
use Rattle.closure_ir.specs.Program as closing
use Rattle.placed_ir.specs.Program.{code_of_steps}
use Rattle.place_laws.specs.Place.{place_code}
use Rattle.closed_live.specs.Rows.{AreAlong}
use Rattle.closed_live.proofs.Unfold.{some_within}
use Rattle.place_bodies.specs.Steps.{at_of, end_table}
use Rattle.place_bodies.proofs.Whole.{body_leads}
use Rattle.reg_spill.proofs.Along.{end_length}
use Rattle.reg_spill.proofs.Apart.{fits_more}
use Rattle.reg_spill.proofs.program.place_next.Goals as goal

pub returns-clause-long : goal.returns-clause-long
returns-clause-long c =
    let a = c.in_ok-load.ensures.long in
    let k : length c.place_body.new.table.items ≡ length c.load.new.table.items = ap length c.in_ok-placed.ensures.table ∙ end_length c.load.new.table.items c.args.body.now.binds c.as_slice.result.now in
    omega arith

pub returns-clause-steps : goal.returns-clause-steps
returns-clause-steps c bodies i numbered e alive live at h =
    let b = c.args.body.now in
    let t = c.load.new.table.items in
    let along = c.as_slice.result.now in
    let lives = c.args.lives.now in
    let last = closing.code_of_end (closing.code_at bodies) b.end in
    body_leads bodies numbered lives i b along t e (some_within bodies i b e) alive (subst (AreAlong (row_at lives) b 0) (sym c.as_slice.ensures.value) c.in_ok-along.ensures)
    (fits_more (length c.args.table.now.items) (length t) b.binds c.in_ok-load.ensures.long c.requires) at (λ x m. sym (c.in_ok-load.ensures.places at h x (subst (IsAmong x) (sym live) m)))
    ∙ ap (λ ss. code_of_steps ss (place_code (at_of (end_table t b.binds along)) last)) (sym c.in_ok-placed.ensures.steps)
    ∙ ap (λ u. code_of_steps c.in_ok-placed.placed.steps (place_code (at_of u) last)) (sym c.in_ok-placed.ensures.table)

pub returns-clause-kept : goal.returns-clause-kept
returns-clause-kept c p q f t e h =
    let b = c.args.body.now in
    let table = c.load.new.table.items in
    let along = c.as_slice.result.now in
    (subst (AllByRecursion (there.StepKept q)) (sym c.in_ok-placed.ensures.steps) (steps_kept p q f t e table b.binds along h.0), subst (there.EndKept q) (sym c.in_ok-placed.ensures.end) (end_kept p q f t e (at_of (end_table table b.binds along)) b.end h.1))
