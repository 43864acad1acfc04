use Rattle.std.proofs.Common.{length, sym, ap, arith}
use Rattle.std.proofs.lemmas.List.{drop_all}
use Rattle.label_plans.specs.Rows.{records_of}
use Rattle.label_plans.proofs.Planned.{records_back}
use Rattle.label_plans.proofs.measures.record_words.Goals as goal

pub loop-i-init : goal.loop-i-init
loop-i-init c = record {
  within = omega arith;
  sum = ap (records_of c.args.classes.now) (sym (drop_all (length c.args.numbers.now) c.args.numbers.now (omega arith)));
}

pub loop-i-preserved : goal.loop-i-preserved
loop-i-preserved c = record {
  within = omega (arith, c.loop-i.invariant.within);
  sum = records_back c.args.classes.now c.args.numbers.now c.loop-i.i _ c.in_ok-size.size c.in_ok-words.words c.loop-i.total c.in_ok-total.total c.loop-i-test.true c.loop-i.invariant.within c.in_ok-size.ensures c.in_ok-words.ensures c.loop-i.invariant.sum c.in_ok-total.ensures;
}
