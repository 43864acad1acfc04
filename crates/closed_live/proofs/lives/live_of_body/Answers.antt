use Rattle.std.proofs.Common.{subst, arith}
use Rattle.sml_tree.specs.Sets.{row_at}
use Rattle.closed_live.specs.Same.{AreSame}
use Rattle.closed_live.specs.Rows.{bind_live, end_live}
use Rattle.closed_live.proofs.Table.{back_more}
use Rattle.closed_live.proofs.lives.live_of_body.Goals as goal

pub loop-i-preserved : goal.loop-i-preserved
loop-i-preserved c =
    let part = row_at c.args.lives.now in
    record {
      within = omega (arith, c.loop-i.invariant.within);
      same =
          back_more c.items-binds.result.now c.loop-i.i _ (end_live part c.args.body.now.end) c.loop-i.set.keys c.step_back.new.set.keys c.loop-i-test.true c.loop-i.invariant.within c.loop-i.invariant.same
          (subst (λ b. AreSame c.step_back.new.set.keys (bind_live b c.loop-i.set.keys)) c.index-binds-i.is c.in_ok-step_back.ensures);
    }
