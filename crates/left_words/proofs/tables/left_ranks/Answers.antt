use Rattle.std.proofs.Common.{length, arith}
use Rattle.left_words.proofs.Sited.{none_ranked, rank_more}
use Rattle.left_words.proofs.tables.left_ranks.Goals as goal

pub loop-i-init : goal.loop-i-init
loop-i-init c = record {
  within = omega arith;
  ranked = none_ranked c.args.left.now (length c.args.left.now) c.new-ranks.result.keys (omega arith) c.new-ranks.ensures.empty;
}

pub loop-i-preserved : goal.loop-i-preserved
loop-i-preserved c = record {
  within = omega (arith, c.loop-i.invariant.within);
  ranked = rank_more c.args.left.now c.loop-i.i c.rank.result _ c.loop-i.ranks.keys c.insert.new.set.keys c.loop-i-test.true c.loop-i.invariant.within c.rank.ensures c.loop-i.invariant.ranked c.in_ok-insert.ensures;
}
