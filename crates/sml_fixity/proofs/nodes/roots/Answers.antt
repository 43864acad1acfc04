use Rattle.std.proofs.Common.{rules}
use Rattle.sml_fixity.proofs.NodeLemmas.{roots_next}
use Rattle.sml_fixity.proofs.nodes.roots.Goals as goal

pub loop-i-preserved : goal.loop-i-preserved
loop-i-preserved c = λ numbers e. roots_next c.loop-i.i _ _ _ c.loop-i.stack.items c.truncate.new.self.items c.push.new.self.items numbers c.args.nodes.now _ c.loop-i-test.true c.truncate.ensures.items c.saturating_sub.ensures (search rules) c.parts.ensures c.in_ok-push.ensures.items (c.loop-i.invariant numbers e)
