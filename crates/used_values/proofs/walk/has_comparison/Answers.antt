use Rattle.std.proofs.Common.{rules, ◌≡◌, ◌<◌, ◌++◌, ◌∷◌, [], ap, sym, subst, ◌∙◌}
use Rattle.std.specs.Prelude.{◌||◌}
use Rattle.std.specs.List.{list_any}
use Rattle.cps_ir.specs.Program.{code_at}
use Rattle.cps_free.proofs.Unfold.{AreNumbered}
use Rattle.close_laws.specs.Close.{compares}
use Rattle.used_values.specs.Own.{bodies_in}
use Rattle.used_values.proofs.Trees.{weight}
use Rattle.used_values.proofs.Going.{begun, compares_turn, fewer}
use Rattle.used_values.proofs.walk.has_comparison.Goals as goal

pub loop-i-init : goal.loop-i-init
loop-i-init c = begun (λ i. compares (code_at c.bodies-bodies.result.now i)) c.push.new.work.items 0 (c.in_ok-push.ensures ∙ ap (λ is. is ++ 0 ∷ []) c.new-work.ensures.items)

pub loop-i-smaller : goal.loop-i-smaller
loop-i-smaller c =
    let bodies = c.bodies-bodies.result.now in
    let numbered : AreNumbered bodies = subst AreNumbered (sym c.bodies-bodies.ensures.bodies) c.bodies-bodies.ensures.kept.numbered in
    subst (λ is. weight (λ i. bodies_in (code_at bodies i)) c.push_at.new.work.items < weight (λ i. bodies_in (code_at bodies i)) is) (sym c.in-Some.ensures.items)
    (fewer bodies numbered c.pop.new.self.items c.push_at.new.work.items c.in-Some.i c.in_ok-push_at.ensures)

pub loop-i-preserved : goal.loop-i-preserved
loop-i-preserved c =
    let bodies = c.bodies-bodies.result.now in
    let numbered : AreNumbered bodies = subst AreNumbered (sym c.bodies-bodies.ensures.bodies) c.bodies-bodies.ensures.kept.numbered in
    compares_turn bodies numbered c.pop.new.self.items c.push_at.new.work.items c.in-Some.i c.loop-i.found c.compares_body-found.result (compares (code_at bodies 0))
    (subst (λ is. (list_any (λ i. compares (code_at bodies i)) is || c.loop-i.found) ≡ compares (code_at bodies 0)) c.in-Some.ensures.items c.loop-i.invariant)
    c.compares_body-found.ensures c.in_ok-push_at.ensures

pub returns : goal.returns
returns c =
    let empty : c.loop-i.work.items ≡ [] = search rules in
    sym (ap (λ is. list_any (λ i. compares (code_at c.bodies-bodies.result.now i)) is || c.loop-i.found) empty) ∙ c.loop-i.invariant ∙ ap (λ bodies. compares (code_at bodies 0)) c.bodies-bodies.ensures.bodies
