use Rattle.std.proofs.Common.{◌≡◌, ◌-◌, ◌<◌, ◌∙◌, suc, Some, length, ap, sym, subst, arith}
use Rattle.std.proofs.lemmas.Option.{slice_get-get_or}
use Rattle.sml_tree.specs.Sets.{row_at}
use Rattle.closed_live.specs.Same.{AreSame}
use Rattle.closed_live.specs.Rows.{body_live, AreLive}
use Rattle.closed_live.proofs.Unfold.{AreNumbered}
use Rattle.closed_live.proofs.Table.{done_down}
use Rattle.closed_live.proofs.lives.live_variables.Goals as goal

pub loop-i-preserved : goal.loop-i-preserved
loop-i-preserved c =
    let bodies = c.bodies-bodies.result.now in
    let lt : c.loop-i.i - 1 < length bodies = omega (arith, c.loop-i.invariant.within) in
    let here : suc (c.loop-i.i - 1) ≡ c.loop-i.i = omega arith in
    let numbered : AreNumbered bodies = subst AreNumbered (sym c.bodies-bodies.ensures.bodies) c.bodies-bodies.ensures.kept.numbered in
    record {
      within = omega arith;
      done =
          done_down bodies numbered (c.loop-i.i - 1) c.index-bodies-i.result (slice_get-get_or _ _ c.index-bodies-i.result lt ∙ ap Some (sym c.index-bodies-i.is)) c.loop-i.lives.items
          (subst (λ k. AreLive bodies k c.loop-i.lives.items) (sym here) c.loop-i.invariant.done) lt c.from_vec.result
          (subst (λ xs. AreSame xs (body_live (row_at c.loop-i.lives.items) c.index-bodies-i.result)) (sym c.from_vec.ensures) (subst (λ rows. AreSame c.in_ok-live.live.items (body_live (row_at rows) c.index-bodies-i.result)) c.deref.ensures.value c.in_ok-live.ensures));
    }
