use Rattle.std.proofs.Common.{rules, ◌≢◌, ◌<◌}
use Rattle.sml_expansion.proofs.StartLemmas.{turned}
use Rattle.sml_expansion.proofs.starts.before.Goals as goal

pub loop-preserved : goal.loop-preserved
loop-preserved c =
    let some : c.loop.start ≢ 0 = search rules in
    let more : c.loop.counter < c.args.trees = search rules in
    turned c.args.starts.now c.loop.counter c.args.trees c.loop.start c.number_at-start.result _ more some c.number_at-start.ensures c.loop.invariant
