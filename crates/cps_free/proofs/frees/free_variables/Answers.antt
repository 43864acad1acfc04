use Rattle.std.proofs.Common.{◌≡◌, ◌-◌, ◌<◌, ◌∙◌, suc, Some, length, ap, sym, subst, arith}
use Rattle.std.proofs.lemmas.Option.{slice_get-get_or}
use Rattle.sml_tree.specs.IsBare.{IsAscending}
use Rattle.sml_tree.specs.Sets.{row_at}
use Rattle.cps_free.specs.Same.{AreSame}
use Rattle.cps_free.specs.Rows.{body_free, AreFree}
use Rattle.cps_free.proofs.Unfold.{AreNumbered}
use Rattle.cps_free.proofs.Table.{done_down}
use Rattle.cps_free.proofs.frees.free_variables.Goals as goal

pub loop-i-preserved : goal.loop-i-preserved
loop-i-preserved c =
    let bodies = c.bodies-bodies.result.now in
    let lt : c.loop-i.i - 1 < length bodies = omega (arith, c.loop-i.invariant.within) in
    let here : suc (c.loop-i.i - 1) ≡ c.loop-i.i = omega arith in
    let numbered : AreNumbered bodies = subst AreNumbered (sym c.bodies-bodies.ensures.bodies) c.bodies-bodies.ensures.kept.numbered in
    record {
      within = omega arith;
      done =
          done_down bodies numbered (c.loop-i.i - 1) c.index-bodies-i.result (slice_get-get_or _ _ c.index-bodies-i.result lt ∙ ap Some (sym c.index-bodies-i.is)) lt c.loop-i.frees.items
          (subst (λ k. AreFree bodies k c.loop-i.frees.items) (sym here) c.loop-i.invariant.done)
          c.from_vec.result
          (subst (IsAscending 0) (sym c.from_vec.ensures) c.in_ok-free.ensures.ascending)
          (subst (λ xs. AreSame xs (body_free (row_at c.loop-i.frees.items) c.index-bodies-i.result)) (sym c.from_vec.ensures) (subst (λ rows. AreSame c.in_ok-free.free.items (body_free (row_at rows) c.index-bodies-i.result)) c.deref.ensures.value c.in_ok-free.ensures.members));
    }
