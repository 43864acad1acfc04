use Rattle.std.proofs.Common.{length, arith}
use Rattle.live_classes.proofs.Tables.{none_yet, home_more}
use Rattle.live_classes.proofs.homes.homes.Goals as goal

pub loop-i-init : goal.loop-i-init
loop-i-init c = record {
  within = omega arith;
  are = none_yet c.args.bindings.now c.args.n (length c.args.bindings.now) c.in_ok-homes.homes.items (omega arith) c.in_ok-homes.ensures;
}

pub loop-i-preserved : goal.loop-i-preserved
loop-i-preserved c = record {
  within = omega (arith, c.loop-i.invariant.within);
  are = home_more c.args.bindings.now c.args.n c.loop-i.i _ c.index-bindings-i.result c.loop-i.homes.items c.set_home.new.homes.items c.loop-i-test.true c.loop-i.invariant.within c.index-bindings-i.is c.loop-i.invariant.are c.set_home.ensures;
}
