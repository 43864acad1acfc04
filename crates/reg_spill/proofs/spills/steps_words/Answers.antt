use Rattle.std.proofs.Common.{◌∙◌, ap, arith}
use Rattle.place_laws.specs.Place.{greater}
use Rattle.reg_spill.specs.Spills.{step_spills}
use Rattle.reg_spill.proofs.Spilling.{steps_back}
use Rattle.reg_spill.proofs.spills.steps_words.Goals as goal

pub loop-i-preserved : goal.loop-i-preserved
loop-i-preserved c = record {
  within = omega (arith, c.loop-i.invariant.within);
  most =
      steps_back c.args.steps.now c.loop-i.i c.args.last c.loop-i.most c.greater_of-most.result _ c.loop-i-test.true c.loop-i.invariant.within c.loop-i.invariant.most
      (c.greater_of-most.ensures ∙ ap (λ n. greater n c.loop-i.most) (c.in_ok-step_words.ensures ∙ ap step_spills c.index-steps-i.is));
}
