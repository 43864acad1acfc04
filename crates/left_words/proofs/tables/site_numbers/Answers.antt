use Rattle.std.proofs.Common.{length, arith}
use Rattle.left_words.proofs.Sited.{none_first, number_more}
use Rattle.left_words.proofs.tables.site_numbers.Goals as goal

pub loop-i-init : goal.loop-i-init
loop-i-init c = record {
  within = omega arith;
  first = none_first c.args.sites.now (length c.args.sites.now) c.new-numbers.result (omega arith) c.new-numbers.ensures.empty;
}

pub loop-i-preserved : goal.loop-i-preserved
loop-i-preserved c = record {
  within = omega (arith, c.loop-i.invariant.within);
  first = number_more c.args.sites.now c.loop-i.i c.rank.result c.in_ok-number.field-0 _ c.loop-i.numbers c.insert.new.self c.loop-i-test.true c.loop-i.invariant.within c.rank.ensures c.in_ok-number.ensures c.loop-i.invariant.first c.in_ok-insert.ensures.updates.0;
}
