-- A program of these parts is the one that closing makes.
use Rattle.std.proofs.Common.{◌≡◌, ◌+◌, ◌<◌, ◌^◌, length, map, sym, ap, ◌∙◌, subst}
use Rattle.std.specs.List.{AllByRecursion}
use Rattle.cps_ir.specs.Program.{Cps, code_at, tree_of}
use Rattle.cps_ir.specs.Kept.{IsProgram}
use Rattle.cps_ir.specs.Slim.{IsSlim, layouts}
use Rattle.closure_ir.specs.Program as closing
use Rattle.closure_ir.specs.Program.{Closed}
use Rattle.closure_ir.specs.Kept as kept
use Rattle.close_laws.specs.Close.{close, left_points}
use Rattle.close_steps.specs.declared.decisions.Decisions.{Decisions}
use Rattle.close_decisions.specs.Tables.{AreTables}
use Rattle.close_seen.specs.Seen.{functions_of, all_closed}
use Rattle.close_labels.specs.Slots.{routines_by_label}
use Rattle.close_main.specs.Main.{facts_of}
use Rattle.close_main.proofs.Main.{closed}
use Rattle.close_kept.specs.Kept.{closed_by}
use Rattle.close_kept.proofs.Kept.{programs}

made_is : (q : Cps) (d : Decisions) (r : Closed) → r.bodies ≡ all_closed d q.bodies → r.functions ≡ routines_by_label d (functions_of q.bodies) → r.points ≡ left_points (facts_of q) (code_at q.bodies 0) → r.variables ≡ q.variables + length (facts_of q).classes → r.sites ≡ q.sites → r.texts ≡ q.texts → r.exns ≡ q.exns → r ≡ closed_by q d
made_is q d r e1 e2 e3 e4 e5 e6 e7 =
    let p = closed_by q d in
    ap (λ x. record { bodies = x; functions = r.functions; points = r.points; variables = r.variables; sites = r.sites; texts = r.texts; exns = r.exns }) e1
    ∙ ap (λ x. record { bodies = p.bodies; functions = x; points = r.points; variables = r.variables; sites = r.sites; texts = r.texts; exns = r.exns }) e2
    ∙ ap (λ x. record { bodies = p.bodies; functions = p.functions; points = x; variables = r.variables; sites = r.sites; texts = r.texts; exns = r.exns }) e3
    ∙ ap (λ x. record { bodies = p.bodies; functions = p.functions; points = p.points; variables = x; sites = r.sites; texts = r.texts; exns = r.exns }) e4
    ∙ ap (λ x. record { bodies = p.bodies; functions = p.functions; points = p.points; variables = p.variables; sites = x; texts = r.texts; exns = r.exns }) e5
    ∙ ap (λ x. record { bodies = p.bodies; functions = p.functions; points = p.points; variables = p.variables; sites = q.sites; texts = x; exns = r.exns }) e6
    ∙ ap (λ x. record { bodies = p.bodies; functions = p.functions; points = p.points; variables = p.variables; sites = q.sites; texts = q.texts; exns = x }) e7

pub made_kept : (q : Cps) → IsProgram q → IsSlim (tree_of q) → (d : Decisions) → AreTables (facts_of q) q.variables d → AllByRecursion (λ l. l.point.node < 2 ^ 32) (layouts (code_at q.bodies 0)) → (r : Closed) → r.bodies ≡ all_closed d q.bodies → r.functions ≡ routines_by_label d (functions_of q.bodies) → r.points ≡ left_points (facts_of q) (code_at q.bodies 0) → r.variables ≡ q.variables + length (facts_of q).classes → r.sites ≡ q.sites → r.texts ≡ q.texts → r.exns ≡ q.exns → kept.IsProgram r
made_kept q keeps slim d tables nodes r e1 e2 e3 e4 e5 e6 e7 =
    subst kept.IsProgram (sym (made_is q d r e1 e2 e3 e4 e5 e6 e7)) (programs q keeps slim d tables nodes)

tree_is : (q : Cps) → IsProgram q → IsSlim (tree_of q) → (d : Decisions) → AreTables (facts_of q) q.variables d → closing.tree_of (closed_by q d) ≡ close q.variables (tree_of q)
tree_is q keeps slim d tables =
    let c = closed q keeps slim d tables in
    let p = closed_by q d in
    ap (λ m. record { main = m; functions = map (closing.routine_of p.bodies) p.functions; points = p.points; sites = q.sites; texts = q.texts; exns = q.exns }) c.main
    ∙ ap (λ fs. record { main = (close q.variables (tree_of q)).main; functions = fs; points = p.points; sites = q.sites; texts = q.texts; exns = q.exns }) c.functions

pub made_tree : (q : Cps) → IsProgram q → IsSlim (tree_of q) → (d : Decisions) → AreTables (facts_of q) q.variables d → (r : Closed) → r.bodies ≡ all_closed d q.bodies → r.functions ≡ routines_by_label d (functions_of q.bodies) → r.points ≡ left_points (facts_of q) (code_at q.bodies 0) → r.variables ≡ q.variables + length (facts_of q).classes → r.sites ≡ q.sites → r.texts ≡ q.texts → r.exns ≡ q.exns → closing.tree_of r ≡ close q.variables (tree_of q)
made_tree q keeps slim d tables r e1 e2 e3 e4 e5 e6 e7 =
    ap closing.tree_of (made_is q d r e1 e2 e3 e4 e5 e6 e7) ∙ tree_is q keeps slim d tables
