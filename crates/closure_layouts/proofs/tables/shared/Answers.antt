use Rattle.std.proofs.Common.{ap}
use Rattle.sml_tree.specs.Sets.{has}
use Rattle.closure_layouts.proofs.Rows.{shared_more}
use Rattle.closure_layouts.proofs.tables.shared.Goals as goal

pub loop-class-init : goal.loop-class-init
loop-class-init c z = ap (λ ks. has ks z) c.new-set.ensures.empty

pub loop-class-preserved : goal.loop-class-preserved
loop-class-preserved c = shared_more c.args.classes.now c.loop-class.class-index c.items.result.now _ c.class-item.result c.loop-class.set.keys c.insert_all.new.set.keys c.loop-class-test.true c.class-item.is c.items.ensures c.loop-class.invariant c.in_ok-insert_all.ensures
