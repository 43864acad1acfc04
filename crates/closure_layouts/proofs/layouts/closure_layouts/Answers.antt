use Rattle.std.proofs.Common.{length, map, sym, subst, ap, ◌∙◌, arith}
use Rattle.std.proofs.lemmas.List.{take_all}
use Rattle.sml_tree.specs.Sets.{row_at, union_over}
use Rattle.cps_ir.specs.Program.{code_at}
use Rattle.cps_ir.specs.Slim.{Layout}
use Rattle.cps_free.specs.Same.{AreSame}
use Rattle.lifetime_users.specs.declared.class.Class.{Class}
use Rattle.lifetime_users.specs.Users.{label_in}
use Rattle.close_laws.specs.Layouts.{facts}
use Rattle.variable_users.specs.Ranks.{AreRanks}
use Rattle.closure_layouts.specs.Tables.{AreClassRows}
use Rattle.closure_layouts.specs.Found.{closure_at}
use Rattle.closure_layouts.proofs.Facts.{layout_more}
use Rattle.closure_layouts.proofs.layouts.closure_layouts.Goals as goal

pub loop-function-preserved : goal.loop-function-preserved
loop-function-preserved c =
    let cls = c.args.classes.now.of in
    let shared : AreSame c.in_ok-shared.shared.keys (union_over (λ (k : Class). k.vars) cls) = subst (λ ks. AreSame c.in_ok-shared.shared.keys (union_over (λ (k : Class). k.vars) ks)) c.items.ensures c.in_ok-shared.ensures in
    let rows : AreClassRows cls (length c.args.all.now) c.in_ok-rows.rows.items = subst (λ ks. AreClassRows ks (length c.args.all.now) c.in_ok-rows.rows.items) c.items-2.ensures c.in_ok-rows.ensures in
    let ready : AreRanks c.args.all.now c.deref.result.now = subst (AreRanks c.args.all.now) (sym c.deref.ensures.value) c.in_ok-ranks.ensures in
    layout_more (code_at c.args.program.now.bodies 0) c.args.program.now.variables c.loop-function.function-index c.in_ok-label.label c.args.all.now cls _ c.function-item.result c.args.closed.now.keys c.args.values.now.keys c.in_ok-shared.shared.keys c.row.result.now c.in_ok-rows.rows.items c.in_ok-layout.field-0 c.loop-function.found.items c.push.new.self.items
    c.loop-function-test.true c.function-item.is c.requires.functions c.requires.once c.requires.closed c.requires.values c.requires.classes shared rows
    (c.in_ok-label.ensures c.args.all.now ready ∙ ap (label_in c.args.all.now) c.point.ensures)
    (c.row.ensures ∙ ap (λ rs. row_at rs c.in_ok-label.label) c.deref-in-loop-function.ensures.value)
    c.in_ok-layout.ensures c.loop-function.invariant c.in_ok-push.ensures.items

pub returns : goal.returns
returns c =
    c.loop-function.invariant ∙ ap (map (λ (k : Layout). closure_at (facts c.args.program.now.variables (code_at c.args.program.now.bodies 0)) k.point)) (take_all c.loop-function.function-index c.args.all.now (omega (arith, c.loop-function-test.false)) ∙ c.requires.functions)
