use Rattle.std.proofs.Common.{◌≡◌, ◌+◌, ◌<◌, ◌^◌, ◌∙◌, List, length, map, ap, sym, subst}
use Rattle.std.specs.Borrow.{Bor}
use Rattle.std.specs.List.{AllByRecursion}
use Rattle.cps_ir.specs.declared.body.Function.{Function}
use Rattle.cps_ir.specs.Program.{Cps, code_at, tree_of}
use Rattle.label_order.specs.Order.{AreApart}
use Rattle.closure_plan.proofs.Apart.{slim_apart}
use Rattle.close_laws.specs.Close.{left_points}
use Rattle.close_seen.specs.Seen.{functions_of, all_closed}
use Rattle.close_labels.specs.Slots.{routines_by_label}
use Rattle.close_main.specs.Main.{facts_of}
use Rattle.closure_share.proofs.Made.{made_kept, made_tree}
use Rattle.closure_share.proofs.program.closed_program.Goals as goal

bodies_are : (c : goal.After-from_vec) → c.in_ok-bodies.bodies ≡ all_closed c.in_ok-decisions.decisions c.args.program.now.bodies
bodies_are c = c.in_ok-bodies.ensures ∙ ap (all_closed c.in_ok-decisions.decisions) c.bodies-2.ensures.bodies

functions_are : (c : goal.After-from_vec) → c.in_ok-routines.routines ≡ routines_by_label c.in_ok-decisions.decisions (functions_of c.args.program.now.bodies)
functions_are c =
    let d = c.in_ok-decisions.decisions in
    c.in_ok-routines.ensures ∙ ap (λ (fs : List (Bor Function)). routines_by_label d (map (λ (f : Bor Function). f.now) fs)) c.deref-2.ensures.value
    ∙ ap (routines_by_label d) (c.in_ok-functions.ensures ∙ ap functions_of c.bodies.ensures.bodies)

points_are : (c : goal.After-from_vec) → c.from_vec.result ≡ left_points (facts_of c.args.program.now) (code_at c.args.program.now.bodies 0)
points_are c = c.from_vec.ensures ∙ c.in_ok-points.ensures

variables_are : (c : goal.After-from_vec) → c.in_ok-variables.variables ≡ c.args.program.now.variables + length (facts_of c.args.program.now).classes
variables_are c =
    c.in_ok-variables.ensures ∙ ap (λ n. n + c.len.result) c.variables.ensures
    ∙ ap (λ n. c.args.program.now.variables + n) (c.len.ensures ∙ ap length c.requires.known.classes)

sites_are : (c : goal.After-from_vec) → c.in_ok-sites.sites ≡ c.args.program.now.sites
sites_are c = c.in_ok-sites.ensures ∙ c.sites.ensures

texts_are : (c : goal.After-from_vec) → c.in_ok-texts.texts ≡ c.args.program.now.texts
texts_are c = c.in_ok-texts.ensures ∙ c.texts.ensures

exns_are : (c : goal.After-from_vec) → c.in_ok-exns.exns ≡ c.args.program.now.exns
exns_are c = c.in_ok-exns.ensures ∙ c.items-2.ensures ∙ ap (λ (q : Cps). q.exns) c.program.view_is

pub invariant_of-closed : goal.invariant_of-closed
invariant_of-closed c =
    let q = c.args.program.now in
    made_kept q c.bodies.ensures.kept c.requires.slim c.in_ok-decisions.decisions c.in_ok-decisions.ensures
    (subst (AllByRecursion (λ l. l.point.node < 2 ^ 32)) (c.items-all.ensures ∙ c.requires.known.functions) c.small_nodes.ensures)
    _ (bodies_are c) (functions_are c) (points_are c) (variables_are c) (sites_are c) (texts_are c) (exns_are c)

pub returns : goal.returns
returns c =
    let q = c.args.program.now in
    made_tree q c.bodies.ensures.kept c.requires.slim c.in_ok-decisions.decisions c.in_ok-decisions.ensures
    _
    (c.in_ok-bodies.ensures ∙ ap (all_closed c.in_ok-decisions.decisions) c.bodies-2.ensures.bodies)
    (c.in_ok-routines.ensures ∙ ap (λ (fs : List (Bor Function)). routines_by_label c.in_ok-decisions.decisions (map (λ (f : Bor Function). f.now) fs)) c.deref-2.ensures.value ∙ ap (routines_by_label c.in_ok-decisions.decisions) (c.in_ok-functions.ensures ∙ ap functions_of c.bodies.ensures.bodies))
    (c.from_vec.ensures ∙ c.in_ok-points.ensures)
    (c.in_ok-variables.ensures ∙ ap (λ n. n + c.len.result) c.variables.ensures ∙ ap (λ n. q.variables + n) (c.len.ensures ∙ ap length c.requires.known.classes))
    (c.in_ok-sites.ensures ∙ c.sites.ensures)
    (c.in_ok-texts.ensures ∙ c.texts.ensures)
    (c.in_ok-exns.ensures ∙ c.items-2.ensures ∙ ap (λ (q : Cps). q.exns) c.program.view_is)

pub left_points-requires-clause-apart : goal.left_points-requires-clause-apart
left_points-requires-clause-apart c = subst AreApart (sym (c.items-all.ensures ∙ c.requires.known.functions)) (slim_apart (tree_of c.args.program.now) c.requires.slim)
