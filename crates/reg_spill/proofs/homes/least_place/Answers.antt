use Rattle.std.proofs.Common.{◌∙◌, sym}
use Rattle.closed_live.proofs.Sets.{member}
use Rattle.reg_spill.proofs.Taken.{one_below, least_is}
use Rattle.reg_spill.proofs.homes.least_place.Goals as goal

pub loop-place-preserved : goal.loop-place-preserved
loop-place-preserved c =
    one_below c.args.taken.now.keys c.loop-place.place c.loop-place.invariant (sym (member c.loop-place.place c.args.taken.now.keys) ∙ sym c.contains.ensures ∙ c.loop-place-test.true)

pub returns : goal.returns
returns c =
    least_is c.args.taken.now.keys c.loop-place.place c.loop-place.invariant (sym (member c.loop-place.place c.args.taken.now.keys) ∙ sym c.contains.ensures ∙ c.loop-place-test.false)
