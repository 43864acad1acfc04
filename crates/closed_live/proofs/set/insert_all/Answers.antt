use Rattle.std.proofs.Common.{[], ◌∷◌, refl}
use Rattle.closed_live.proofs.Steps.{over_more}
use Rattle.closed_live.proofs.set.insert_all.Goals as goal

pub loop-x-preserved : goal.loop-x-preserved
loop-x-preserved c =
    over_more (λ x. x ∷ []) (λ xs. xs) (λ x xs. refl) c.args.xs.now c.loop-x.x-index _ _ c.args.set.now.keys c.loop-x.set.keys c.insert.new.set.keys c.loop-x-test.true refl c.loop-x.invariant c.in_ok-insert.ensures
