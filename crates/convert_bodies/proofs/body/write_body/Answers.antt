use Rattle.std.proofs.Common.{[], false, subst}
use Rattle.convert_decide.specs.Decide.{item_in}
use Rattle.convert_bodies.proofs.Turned.{IsTask, not_begun, and_then}
use Rattle.convert_bodies.proofs.body.write_body.Goals as goal

pub loop-init : goal.loop-init
loop-init c = not_begun (item_in false c.args.source.own.now) c.args.source.terms.now c.args.world.now c.new-binds.result c.args.task c.new-binds.ensures

pub loop-preserved : goal.loop-preserved
loop-preserved c =
    and_then (item_in false c.args.source.own.now) c.args.source.terms.now c.args.world.now c.loop.world c.turn.new.world [] c.loop.binds c.turn.new.binds c.args.task c.loop.left _ c.loop.invariant
    (subst (IsTask (item_in false c.args.source.own.now) c.args.source.terms.now c.loop.world c.loop.binds c.turn.new.world c.turn.new.binds c.loop.left) c.in-Go.is c.in_ok-later.ensures)

pub returns-in-Stop : goal.returns-in-Stop
returns-in-Stop c =
    and_then (item_in false c.args.source.own.now) c.args.source.terms.now c.args.world.now c.loop.world c.turn.new.world [] c.loop.binds c.turn.new.binds c.args.task c.loop.left _ c.loop.invariant
    (subst (IsTask (item_in false c.args.source.own.now) c.args.source.terms.now c.loop.world c.loop.binds c.turn.new.world c.turn.new.binds c.loop.left) c.in-Stop.is c.in_ok-later.ensures)
