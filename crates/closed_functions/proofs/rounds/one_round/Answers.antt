use Rattle.std.proofs.Common.{subst, arith}
use Rattle.std.proofs.lemmas.List.{take_all}
use Rattle.closed_functions.specs.Round.{IsRound}
use Rattle.closed_functions.proofs.Rounding.{begun, looked_more}
use Rattle.closed_functions.proofs.rounds.one_round.Goals as goal

pub loop-layout-init : goal.loop-layout-init
loop-layout-init c = begun c.args.layouts.now c.requires c.args.set.now.keys

pub loop-layout-preserved : goal.loop-layout-preserved
loop-layout-preserved c =
    looked_more c.args.layouts.now c.requires c.loop-layout.layout-index _ c.layout-item.result c.args.set.now.keys c.loop-layout.set.keys c.look_at-fell.new.set.keys c.loop-layout.fell c.look_at-fell.result c.loop-layout-test.true c.layout-item.is c.loop-layout.invariant c.look_at-fell.ensures.test c.look_at-fell.ensures.members c.look_at-fell.ensures.unchanged c.look_at-fell.ensures.len

pub returns : goal.returns
returns c =
    subst (λ ls. IsRound c.args.layouts.now ls c.args.set.now.keys c.loop-layout.set.keys c.loop-layout.fell) (take_all c.loop-layout.layout-index c.args.layouts.now (omega (arith, c.loop-layout-test.false))) c.loop-layout.invariant
