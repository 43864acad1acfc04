use Rattle.std.proofs.Common.{length, arith, refl}
use Rattle.close_decisions.proofs.Numbered.{one_back, all_yet}
use Rattle.close_decisions.proofs.tables.numbers.Goals as goal

pub loop-i-init : goal.loop-i-init
loop-i-init c = record { within = omega arith; are = all_yet c.args.variables (length c.args.all.now) c.args.all.now c.in_ok-numbers.numbers.items c.in_ok-numbers.ensures refl }

pub loop-i-preserved : goal.loop-i-preserved
loop-i-preserved c = record {
  within = omega (arith, c.loop-i.invariant.within);
  are = one_back c.args.variables c.loop-i.i c.args.all.now _ c.index-all-i.result c.loop-i.numbers.items c.set_number.new.numbers.items c.name.result c.in_ok-number.field-0 c.loop-i-test.true c.loop-i.invariant.within c.index-all-i.is c.loop-i.invariant.are c.set_number.ensures c.name.ensures c.in_ok-number.ensures;
}
