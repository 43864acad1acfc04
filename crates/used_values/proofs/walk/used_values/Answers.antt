use Rattle.std.proofs.Common.{rules, ℕ, Bool, ◌≡◌, ◌<◌, ◌++◌, ◌∷◌, [], ap, sym, subst, ◌∙◌}
use Rattle.std.specs.Prelude.{◌||◌}
use Rattle.std.specs.List.{list_any}
use Rattle.sml_tree.specs.Sets.{has}
use Rattle.cps_ir.specs.Program.{code_at}
use Rattle.cps_free.proofs.Unfold.{AreNumbered}
use Rattle.close_laws.specs.Layouts.{values}
use Rattle.used_values.specs.Own.{bodies_in}
use Rattle.used_values.proofs.Trees.{weight}
use Rattle.used_values.proofs.Going.{begun, values_turn, fewer}
use Rattle.used_values.proofs.walk.used_values.Goals as goal

pub loop-i-init : goal.loop-i-init
loop-i-init c z =
    let V : ℕ → Bool = (λ i. has (values (code_at c.bodies-bodies.result.now i)) z) in
    ap (λ ks. list_any V c.push.new.work.items || has ks z) c.new-set.ensures.empty
    ∙ begun V c.push.new.work.items 0 (c.in_ok-push.ensures ∙ ap (λ is. is ++ 0 ∷ []) c.new-work.ensures.items)

pub loop-i-smaller : goal.loop-i-smaller
loop-i-smaller c =
    let bodies = c.bodies-bodies.result.now in
    let numbered : AreNumbered bodies = subst AreNumbered (sym c.bodies-bodies.ensures.bodies) c.bodies-bodies.ensures.kept.numbered in
    subst (λ is. weight (λ i. bodies_in (code_at bodies i)) c.push_at.new.work.items < weight (λ i. bodies_in (code_at bodies i)) is) (sym c.in-Some.ensures.items)
    (fewer bodies numbered c.pop.new.self.items c.push_at.new.work.items c.in-Some.i c.in_ok-push_at.ensures)

pub loop-i-preserved : goal.loop-i-preserved
loop-i-preserved c =
    let bodies = c.bodies-bodies.result.now in
    let numbered : AreNumbered bodies = subst AreNumbered (sym c.bodies-bodies.ensures.bodies) c.bodies-bodies.ensures.kept.numbered in
    values_turn bodies numbered c.pop.new.self.items c.push_at.new.work.items c.in-Some.i c.loop-i.set.keys c.use_at.new.set.keys (has (values (code_at bodies 0)))
    (λ z. subst (λ is. (list_any (λ i. has (values (code_at bodies i)) z) is || has c.loop-i.set.keys z) ≡ has (values (code_at bodies 0)) z) c.in-Some.ensures.items (c.loop-i.invariant z))
    c.in_ok-use_at.ensures c.in_ok-push_at.ensures

pub returns : goal.returns
returns c z =
    let empty : c.loop-i.work.items ≡ [] = search rules in
    sym (ap (λ is. list_any (λ i. has (values (code_at c.bodies-bodies.result.now i)) z) is || has c.loop-i.set.keys z) empty) ∙ c.loop-i.invariant z ∙ ap (λ bodies. has (values (code_at bodies 0)) z) c.bodies-bodies.ensures.bodies
