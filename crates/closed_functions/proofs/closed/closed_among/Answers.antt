use Rattle.std.proofs.Common.{sym, ◌∙◌}
use Rattle.closed_functions.proofs.Rounding.{all_have, is_greatest, smaller}
use Rattle.closed_functions.proofs.closed.closed_among.Goals as goal

pub loop-fell-init : goal.loop-fell-init
loop-fell-init c = record {
  names = λ x h. sym (c.in_ok-closed.ensures x) ∙ h;
  keeps = all_have c.args.all.now c.in_ok-closed.closed.keys c.in_ok-closed.ensures;
  met = λ e. absurd (cc);
}

pub loop-fell-preserved : goal.loop-fell-preserved
loop-fell-preserved c = record {
  names = λ x h. c.loop-fell.invariant.names x (c.one_round-fell.ensures.less x h);
  keeps = λ more m. c.one_round-fell.ensures.keeps more m (c.loop-fell.invariant.keeps more m);
  met = c.one_round-fell.ensures.met;
}

pub loop-fell-smaller : goal.loop-fell-smaller
loop-fell-smaller c = smaller c.args.all.now c.loop-fell.closed.keys c.one_round-fell.new.set.keys c.loop-fell.fell c.one_round-fell.result c.loop-fell-test.true c.one_round-fell.ensures

pub returns : goal.returns
returns c = is_greatest c.args.all.now c.loop-fell.closed.keys c.loop-fell.invariant.names c.loop-fell.invariant.keeps (c.loop-fell.invariant.met c.loop-fell-test.false)
