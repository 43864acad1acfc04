use Rattle.std.proofs.Common.{◌∙◌, ap, arith}
use Rattle.place_laws.specs.Place.{greater}
use Rattle.place_bodies.specs.Steps.{at_of}
use Rattle.reg_spill.proofs.Spilling.{rules_back}
use Rattle.reg_spill.proofs.spills.rules_words.Goals as goal

pub loop-i-preserved : goal.loop-i-preserved
loop-i-preserved c = record {
  within = omega (arith, c.loop-i.invariant.within);
  most =
      rules_back (at_of c.args.table.now) c.args.rules.now c.loop-i.i c.args.last c.loop-i.most c.greater_of-most.result _ c.loop-i-test.true c.loop-i.invariant.within c.loop-i.invariant.most
      (c.greater_of-most.ensures ∙ ap (λ n. greater n c.loop-i.most) c.at.ensures);
}
