use Rattle.std.proofs.Common.{◌∙◌, ◌-◌, ◌≤◌, length, drop, sym, subst, arith}
use Rattle.sml_tree.specs.Sets.{row_at}
use Rattle.closed_live.specs.Same.{AreSame}
use Rattle.closed_live.specs.Rows.{bind_live, binds_live, end_live, AreAlong}
use Rattle.closed_live.proofs.Table.{back_more, along_down}
use Rattle.closed_live.proofs.lives.live_along.Goals as goal

pub loop-i-preserved : goal.loop-i-preserved
loop-i-preserved c =
    let part = row_at c.args.lives.now in
    let b = c.args.body.now in
    record {
      within = omega (arith, c.loop-i.invariant.within);
      same =
          back_more c.items-binds.result.now c.loop-i.i _ (end_live part b.end) c.loop-i.set.keys c.step_back.new.set.keys c.loop-i-test.true c.loop-i.invariant.within c.loop-i.invariant.same
          (subst (λ k. AreSame c.step_back.new.set.keys (bind_live k c.loop-i.set.keys)) c.index-binds-i.is c.in_ok-step_back.ensures);
      done =
          along_down part b c.loop-i.i c.loop-i.along.items c.from_vec.result c.loop-i-test.true (subst (λ bs. c.loop-i.i ≤ length bs) c.items-binds.ensures c.loop-i.invariant.within) c.loop-i.invariant.done
          (subst (λ xs. AreSame xs (binds_live (drop c.loop-i.i b.binds) (end_live part b.end))) (sym (c.from_vec.ensures ∙ c.in_ok-listed.ensures))
          (subst (λ bs. AreSame c.loop-i.set.keys (binds_live (drop c.loop-i.i bs) (end_live part b.end))) c.items-binds.ensures c.loop-i.invariant.same));
    }
