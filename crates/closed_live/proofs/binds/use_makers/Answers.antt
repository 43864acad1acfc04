use Rattle.std.proofs.Common.{◌++◌, refl, subst}
use Rattle.place_laws.specs.Live.{all_used_by, used_by_makers}
use Rattle.closed_live.specs.Same.{AreSame}
use Rattle.closed_live.proofs.Steps.{over_more}
use Rattle.closed_live.proofs.binds.use_makers.Goals as goal

pub loop-maker-preserved : goal.loop-maker-preserved
loop-maker-preserved c =
    over_more (λ m. all_used_by m.fields) used_by_makers (λ x xs. refl) c.args.makers.now c.loop-maker.maker-index _ c.maker-item.result c.args.set.now.keys c.loop-maker.set.keys c.use_operands.new.set.keys c.loop-maker-test.true c.maker-item.is c.loop-maker.invariant
    (subst (λ os. AreSame c.use_operands.new.set.keys (all_used_by os ++ c.loop-maker.set.keys)) c.items.ensures c.in_ok-use_operands.ensures)
