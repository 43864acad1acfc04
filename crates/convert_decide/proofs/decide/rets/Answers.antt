use Rattle.std.proofs.Common.{◌≡◌, ◌-◌, ◌<◌, suc, length, drop, arith}
use Rattle.convert_decide.specs.Decide.{AreRets}
use Rattle.convert_decide.proofs.Backwards.{one_before}
use Rattle.convert_decide.proofs.decide.rets.Goals as goal

pub loop-at-preserved : goal.loop-at-preserved
loop-at-preserved c =
    let lt : c.loop-at.at - 1 < length c.args.sites.now = omega (arith, c.loop-at.invariant.within) in
    let here : suc (c.loop-at.at - 1) ≡ c.loop-at.at = omega arith in
    record {
      within = omega arith;
      done =
          one_before
          (λ xs. AreRets xs c.note.new.rets)
          c.args.sites.now
          (c.loop-at.at - 1)
          c.loop-at.at
          _
          lt
          here
          (c.in_ok-note.ensures (drop c.loop-at.at c.args.sites.now) c.loop-at.invariant.done);
    }
