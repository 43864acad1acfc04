use Rattle.std.proofs.Common.{refl, ◌∙◌, arith}
use Rattle.heap_reach.proofs.Sets.{none_left}
use Rattle.heap_reach.proofs.numbers.NumberSet.clear.Goals as goal

pub loop-self-init : goal.loop-self-init
loop-self-init c = refl

pub loop-self-smaller : goal.loop-self-smaller
loop-self-smaller c = c.pop.ensures.fewer

pub loop-self-preserved : goal.loop-self-preserved
loop-self-preserved c = c.pop.ensures.room ∙ c.loop-self.invariant

pub returns : goal.returns
returns c = none_left c.loop-self.self _ _ _ _ c.self.view_is (omega (arith, c.loop-self-test.false)) c.loop-self.invariant
