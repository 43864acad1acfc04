use Rattle.std.proofs.Common.{rules, ◌∙◌, ap}
use Rattle.sml_tree.specs.Parts.{parts_of}
use Rattle.sml_fixity.proofs.NodeLemmas.{starts_next}
use Rattle.sml_fixity.proofs.nodes.starts.Goals as goal

pub loop-one-preserved : goal.loop-one-preserved
loop-one-preserved c = starts_next _ c.args.end c.start_of-start.result c.loop-one.one-index _ _ _ c.loop-one.stack.items c.truncate.new.self.items c.push.new.self.items c.loop-one.starts.items c.push-in-loop-one.new.self.items _ c.args.made.now _ c.loop-one-test.true (search rules) c.truncate.ensures.items c.saturating_sub.ensures (search rules) (c.parts.ensures ∙ ap parts_of c.node_of.ensures) c.in_ok-push.ensures.items c.in_ok-push-2.ensures.items c.loop-one.invariant
