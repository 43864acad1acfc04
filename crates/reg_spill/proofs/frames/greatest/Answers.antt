use Rattle.std.proofs.Common.{◌∙◌, ap, arith}
use Rattle.place_laws.specs.Place.{greater}
use Rattle.reg_spill.proofs.Recorded.{most_back}
use Rattle.reg_spill.proofs.frames.greatest.Goals as goal

pub loop-i-preserved : goal.loop-i-preserved
loop-i-preserved c = record {
  within = omega (arith, c.loop-i.invariant.within);
  most =
      most_back c.args.functions.now c.loop-i.i c.loop-i.most c.greater_of-most.result _ c.loop-i-test.true c.loop-i.invariant.within c.loop-i.invariant.most
      (c.greater_of-most.ensures ∙ ap (λ n. greater n c.loop-i.most) c.in_ok-record_words.ensures);
}
