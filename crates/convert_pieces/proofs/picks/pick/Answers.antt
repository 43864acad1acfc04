use Rattle.std.proofs.Common.{refl, arith}
use Rattle.convert_pieces.proofs.Emits.{emitted_same}
use Rattle.convert_pieces.proofs.Ways.{one_more, all_gone}
use Rattle.convert_pieces.proofs.picks.pick.Goals as goal

pub loop-at-init : goal.loop-at-init
loop-at-init c = record { within = omega arith; code = λ rest. emitted_same _ _ _ refl }

pub loop-at-preserved : goal.loop-at-preserved
loop-at-preserved c = record {
  within = omega (arith, c.in_ok-reached.ensures.within);
  code =
      λ rest.
      one_more _ _ _ c.loop-at.way c.step.new.way c.args.path.now c.loop-at.at _ 0 c.loop-at.reached.atom c.in_ok-reached.reached.atom c.loop-at.reached.next c.in_ok-reached.reached.next _ rest c.loop-at-test.true refl (c.loop-at.invariant.code rest)
      (λ later. c.in_ok-reached.ensures.code later rest);
}

pub returns : goal.returns
returns c =
    λ rest.
    all_gone _ _ c.loop-at.way c.truncate.new.self c.args.path.now c.loop-at.at c.loop-at.reached.atom c.loop-at.reached.next _ rest c.loop-at-test.false c.loop-at.auto.at-end c.truncate.ensures (c.loop-at.invariant.code rest)
