use Rattle.std.proofs.Common.{◌+◌, ◌∙◌, refl, ap, subst, sym}
use Rattle.std.specs.Prelude.{slice_get}
use Rattle.cps_free.proofs.Unfold.{AreNumbered}
use Rattle.cps_contract.proofs.Parts.{body_counted}
use Rattle.cps_contract.proofs.nodes.nodes_of.Goals as goal

pub loop-at-smaller : goal.loop-at-smaller
loop-at-smaller c =
    let bodies = c.bodies-bodies.result.now in
    let numbered : AreNumbered bodies = subst AreNumbered (sym c.bodies-bodies.ensures.bodies) c.bodies-bodies.ensures.kept.numbered in
    (body_counted bodies numbered c.loop-at.work.items c.pop.new.self.items c.push_at.new.work.items c.in-Some.at c.loop-at.count c.in_ok-count.count c.in-Some.ensures.items (slice_get bodies c.in-Some.at) refl (c.in_ok-count.ensures ∙ ap (λ k. c.loop-at.count + k) c.in_ok-own.ensures) c.in_ok-push_at.ensures).1

pub loop-at-preserved : goal.loop-at-preserved
loop-at-preserved c =
    let bodies = c.bodies-bodies.result.now in
    let numbered : AreNumbered bodies = subst AreNumbered (sym c.bodies-bodies.ensures.bodies) c.bodies-bodies.ensures.kept.numbered in
    (body_counted bodies numbered c.loop-at.work.items c.pop.new.self.items c.push_at.new.work.items c.in-Some.at c.loop-at.count c.in_ok-count.count c.in-Some.ensures.items (slice_get bodies c.in-Some.at) refl (c.in_ok-count.ensures ∙ ap (λ k. c.loop-at.count + k) c.in_ok-own.ensures) c.in_ok-push_at.ensures).0
    ∙ c.loop-at.invariant
