use Rattle.std.proofs.Common.{◌≡◌, sym, subst, arith}
use Rattle.std.proofs.lemmas.Result.{IfOk-weaker}
use Rattle.sml_tree.specs.IsBare.{IsAscending}
use Rattle.sml_tree.specs.Sets.{row_at}
use Rattle.cps_free.specs.Same.{AreSame}
use Rattle.cps_free.specs.Rows.{bind_free, end_free}
use Rattle.cps_free.proofs.Sets.{sorted_ascending}
use Rattle.cps_free.proofs.Table.{back_more}
use Rattle.cps_free.proofs.frees.free_of_body.Goals as goal

pub loop-i-preserved : goal.loop-i-preserved
loop-i-preserved c =
    let part = row_at c.args.frees.now in
    record {
      within = omega (arith, c.loop-i.invariant.within);
      same =
          back_more part c.items-binds.result.now c.loop-i.i _ (end_free part c.args.body.now.end) c.loop-i.set.keys c.step_back.new.set.keys c.loop-i-test.true c.loop-i.invariant.within c.loop-i.invariant.same
          (subst (λ b. AreSame c.step_back.new.set.keys (bind_free part b c.loop-i.set.keys)) c.index-binds-i.is c.in_ok-step_back.ensures);
    }

pub returns-clause-ascending : goal.returns-clause-ascending
returns-clause-ascending c =
    IfOk-weaker c.listed.result (λ v. v.items ≡ c.loop-i.set.keys) (λ v. IsAscending 0 v.items) (λ v e. subst (IsAscending 0) (sym e) (sorted_ascending c.loop-i.set.keys c.len.ensures.ordered)) c.listed.ensures
