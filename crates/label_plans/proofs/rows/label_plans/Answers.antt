use Rattle.std.proofs.Common.{ap, ◌∙◌, map, arith}
use Rattle.std.proofs.lemmas.List.{take_all}
use Rattle.cps_ir.specs.Program.{code_at}
use Rattle.close_laws.specs.Layouts.{facts}
use Rattle.close_laws.specs.Close.{labelled, points_of}
use Rattle.close_laws.specs.Plan.{label_plan}
use Rattle.label_plans.specs.Rows.{rows_in}
use Rattle.label_plans.proofs.Planned.{row_more, planned}
use Rattle.label_plans.proofs.rows.label_plans.Goals as goal

pub loop-i-preserved : goal.loop-i-preserved
loop-i-preserved c =
    row_more c.args.left.now c.sites-sites.result.now c.items-classes.result.now c.args.all.now c.args.layouts.now c.args.order.now c.loop-i.i-index _ c.loop-i.found.items c.push_row.new.found.items c.loop-i-test.true c.loop-i.invariant
    (c.in_ok-push_row.ensures c.args.left.now c.in_ok-ranks.ensures)

pub returns : goal.returns
returns c =
    let code = code_at c.args.program.now.bodies 0 in
    let fresh = c.args.program.now.variables in
    c.loop-i.invariant ∙ ap (rows_in c.args.left.now c.sites-sites.result.now c.items-classes.result.now c.args.all.now c.args.layouts.now) (take_all c.loop-i.i-index c.args.order.now (omega (arith, c.loop-i-test.false)))
    ∙ planned code fresh c.args.left.now c.sites-sites.result.now c.items-classes.result.now c.args.all.now c.args.layouts.now c.args.order.now c.requires.functions c.requires.layouts c.requires.order (c.items-classes.ensures ∙ c.requires.classes)
    ∙ ap (λ ss. map (label_plan (facts fresh code) ss c.args.left.now) (points_of (labelled (facts fresh code) code))) c.sites-sites.ensures
