use Rattle.std.proofs.Common.{refl}
use Rattle.place_bodies.specs.Steps.{at_of}
use Rattle.reg_spill.proofs.Taken.{none_taken, taken_more, empty_keys}
use Rattle.reg_spill.proofs.homes.taken_beside.Goals as goal

pub loop-variable-init : goal.loop-variable-init
loop-variable-init c = none_taken (at_of c.args.table.now) c.args.gone.now c.new-taken.result.keys (empty_keys c.new-taken.result.keys c.new-taken.ensures.empty)

pub loop-variable-preserved : goal.loop-variable-preserved
loop-variable-preserved c =
    taken_more (at_of c.args.table.now) c.args.gone.now c.args.alive.now c.loop-variable.variable-index _ _ c.loop-variable.taken.keys c.take_unless.new.taken.keys c.loop-variable-test.true refl c.loop-variable.invariant c.in_ok-take_unless.ensures
