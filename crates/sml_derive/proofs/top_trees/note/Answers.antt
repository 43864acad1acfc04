use Rattle.sml_derive.proofs.TopLemmas.{noted}
use Rattle.sml_derive.proofs.top_trees.note.Goals as goal

pub loop-preserved : goal.loop-preserved
loop-preserved c = noted c.args.shown.now.items c.loop.shown.items c.push.new.self.items c.loop.counter c.args.each c.loop.invariant c.in_ok-push.ensures.items
