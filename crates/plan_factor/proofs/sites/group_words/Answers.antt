use Rattle.std.proofs.Common.{length, sym, ap, arith}
use Rattle.std.proofs.lemmas.List.{drop_all}
use Rattle.plan_factor.specs.Groups.{words_in}
use Rattle.plan_factor.proofs.Sums.{words_back}
use Rattle.plan_factor.proofs.sites.group_words.Goals as goal

pub loop-i-init : goal.loop-i-init
loop-i-init c = record {
  within = omega arith;
  sum = ap (words_in c.args.layouts.now) (sym (drop_all (length c.args.group.now) c.args.group.now (omega arith)));
}

pub loop-i-preserved : goal.loop-i-preserved
loop-i-preserved c = record {
  within = omega (arith, c.loop-i.invariant.within);
  sum = words_back c.args.layouts.now c.args.group.now c.loop-i.i _ c.in_ok-words.words c.loop-i.total c.in_ok-total.total c.loop-i-test.true c.loop-i.invariant.within c.in_ok-words.ensures c.loop-i.invariant.sum c.in_ok-total.ensures;
}
