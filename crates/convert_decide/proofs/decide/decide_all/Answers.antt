use Rattle.std.proofs.Common.{◌≡◌, ◌-◌, ◌<◌, suc, length, drop, arith}
use Rattle.convert_laws.specs.Decide.{decide_all}
use Rattle.convert_decide.specs.Decide.{IsDecided}
use Rattle.convert_decide.proofs.Backwards.{one_before}
use Rattle.convert_decide.proofs.decide.decide_all.Goals as goal

pub loop-at-preserved : goal.loop-at-preserved
loop-at-preserved c =
    let sites = c.args.sites.now in
    let lt : c.loop-at.at - 1 < length sites = omega (arith, c.loop-at.invariant.within) in
    let here : suc (c.loop-at.at - 1) ≡ c.loop-at.at = omega arith in
    record {
      within = omega arith;
      done =
          λ terms facts taken rets begun.
          one_before
          (λ xs. IsDecided terms (decide_all terms sites xs) c.decide_site.new.own c.decide_site.new.pending)
          sites
          (c.loop-at.at - 1)
          c.loop-at.at
          _
          lt
          here
          (c.in_ok-decide_site.ensures terms sites (decide_all terms sites (drop c.loop-at.at sites)) facts taken rets (c.loop-at.invariant.done terms facts taken rets begun));
    }
